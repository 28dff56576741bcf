-- The nodes that belong to a record in a tree by kind, owner and bit, so that an equal one is found in at most 48 steps: what the table
-- holds, and where a search in it stands. Assumes nothing.
use Rattle.std.specs.Prelude.{ℕ, ◌+◌, ◌*◌, ◌-◌, ◌/◌, ◌%◌, ◌<◌, ◌≤◌, true, false, ◌≡◌, List, take, get_or}
use Rattle.spec_rules.specs.NetlistImage.{node_word}
use Rattle.spec_netlist.specs.Accept.{nets, belongs, same_node}
use Rattle.net_index.specs.Index.{mixed, bucket_of}
use Rattle.stored_nodes.specs.Paths.{Once, slot_at, Live}

-- kind, owner and bit as one number, of 47 digits where kind and bit are in range
abbrev pub key_of : ℕ → ℕ → ℕ → ℕ
key_of k o b = (k * 4294967296 + o) * 2048 + b

unfoldable pub key_at : List ℕ → ℕ → ℕ
key_at ws j = key_of (node_word ws j 0) (node_word ws j 1) (node_word ws j 2)

-- a hash of the key, below m; the last turn spreads the low word over the high digits, by which the bucket goes
unfoldable pub root_of : ℕ → ℕ → ℕ
root_of m k = bucket_of m (mixed (mixed (mixed 0 (k / 4294967296)) (k % 4294967296)) 0)

-- a root for each net, then two slots for each
abbrev pub slots : List ℕ → List ℕ → List ℕ
slots ws table = take (3 * nets ws) table

abbrev pub slot : List ℕ → List ℕ → ℕ → ℕ → ℕ
slot ws t k d = slot_at (root_of (nets ws)) (nets ws) t k d

abbrev pub Passes : List ℕ → List ℕ → ℕ → ℕ → Type 0
Passes ws t k d = Live (root_of (nets ws)) (nets ws) t k d

-- node j's words are in range, and it belongs to a record
pub record Fits (ws : List ℕ) (j : ℕ) : Type 0 where
  pub kind : node_word ws j 0 < 16
  pub owner : node_word ws j 1 < 4294967296
  pub bit : node_word ws j 2 < 2048
  pub owned : belongs (node_word ws j 0) ≡ true

-- node j stands on its own way
pub record Stands (ws t : List ℕ) (j : ℕ) : Type 0 where
  pub depth : ℕ
  pub passes : Passes ws t (key_at ws j) depth
  pub here : get_or t (slot ws t (key_at ws j) depth) 0 ≡ j + 1

-- the slots t hold the nodes below n that belong to a record, and nothing else
pub record Tree (ws : List ℕ) (n : ℕ) (t : List ℕ) : Type 0 where
  pub under : (a : ℕ) → get_or t a 0 ≤ n
  pub once : Once t
  pub fits : (a c : ℕ) → get_or t a 0 ≡ c + 1 → Fits ws c
  pub stands : (j : ℕ) → j < n → belongs (node_word ws j 0) ≡ true → Stands ws t j

-- a search for node n stands at slot a, after d nodes that are not the same
pub record On (ws t : List ℕ) (n d a : ℕ) : Type 0 where
  pub within : a < 3 * nets ws
  pub passes : Passes ws t (key_at ws n) d
  pub here : a ≡ slot ws t (key_at ws n) d
  pub passed : (e : ℕ) → e < d → same_node ws (get_or t (slot ws t (key_at ws n) e) 0 - 1) n ≡ false

-- it ends at slot a, which is free or holds the same node
pub record Ends (ws t : List ℕ) (n a : ℕ) : Type 0 where
  pub depth : ℕ
  pub on : On ws t n depth a
  pub same : 0 < get_or t a 0 → same_node ws (get_or t a 0 - 1) n ≡ true
