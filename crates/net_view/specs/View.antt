-- The netlist that the words of a lent buffer hold, and when they are its netlist image. Assumes nothing.
use Rattle.std.specs.Prelude.{◌≡◌, List, [], ◌∷◌, ◌++◌, ℕ, zero, suc, ◌+◌, ◌*◌, ◌-◌, ◌≤◌, ◌<◌, length, get_or}
use Rattle.spec_rules.specs.NetlistImage.{record_length, records_of}
use Rattle.spec_model.specs.Words.{absent, Node, node, Netlist, used, words}

-- node k's six words
unfoldable pub node_at_of : List ℕ → ℕ → Node
node_at_of w k =
    node (get_or w (16 + 6 * k) 0) (get_or w (16 + 6 * k + 1) 0) (get_or w (16 + 6 * k + 2) 0) (get_or w (16 + 6 * k + 3) 0) (get_or w (16 + 6 * k + 4) 0)
    (get_or w (16 + 6 * k + 5) 0)

-- the first k nodes, the newest first
unfoldable pub nodes_of : List ℕ → ℕ → List Node
nodes_of w zero = []
nodes_of w (suc k) = node_at_of w k ∷ nodes_of w k

-- the words have room for the nodes that they count
abbrev pub NodesWithin : List ℕ → Type 0
NodesWithin w = 16 + 6 * get_or w 1 0 ≤ length w

-- the list limit of words lent for n nets
abbrev pub room : ℕ → List ℕ → ℕ
room n w = length w - (16 + 6 * n)

abbrev pub netlist_of : ℕ → List ℕ → Netlist
netlist_of n w = record { max_nets = n; max_list = room n w; nodes = nodes_of w (get_or w 1 0); records = records_of w }

-- a record that the image's reader finds again, whatever follows it
pub record Formed (r : List ℕ) : Type 0 where
  pub some : 0 < length r
  pub long : (rest : List ℕ) → record_length (r ++ rest) ≡ length r
  pub kind : get_or r 0 absent < 5

abbrev pub AllFormed : List (List ℕ) → Type 0
AllFormed [] = Unit {0}
AllFormed (r ∷ rs) = Formed r × AllFormed rs

-- a netlist within the limits n and p
pub record Fit (n p : ℕ) (l : Netlist) : Type 0 where
  pub nets : l.max_nets ≡ n
  pub list : l.max_list ≡ p
  pub few : length l.nodes ≤ n
  pub short : used l.records ≤ p
  pub formed : AllFormed l.records

-- the words are the image of the netlist that they hold; the limits are those that refusal 1 lets pass
pub record Built (n : ℕ) (w : List ℕ) : Type 0 where
  pub told : w ≡ words n (room n w) (netlist_of n w)
  pub fit : Fit n (room n w) (netlist_of n w)
  pub count : get_or w 1 0 ≤ n
  pub used : get_or w 3 0 ≤ room n w
  pub sized : 16 + 6 * n ≤ length w
  pub some : 0 < n
  pub nets : n ≤ 65535
  pub list : room n w ≤ 65535
