-- What the reader of a netlist image gives, one by one (change request Q-2), and its laws as types. Assumes nothing.
use Rattle.std.specs.Prelude.{ℕ, zero, suc, ◌+◌, ◌-◌, ◌<◌, ◌≤◌, ◌≡◌, Bool, not, List, [], ◌∷◌, ◌++◌, length, take, drop, get_or}
use Rattle.spec_tests.specs.Rules.{◌<?◌, ◌and◌, pick, Fine}
use Rattle.spec_rules.specs.Image.{decode}
use Rattle.spec_rules.specs.Checks.{checked}
use Rattle.spec_rules.specs.NetlistImage.{node_word, record_length, records_of}
use Rattle.spec_model.specs.Words.{Netlist, words}
use Rattle.spec_model.specs.Builder.{done, node_for_net}
use Rattle.spec_model.specs.Lowering.{lower_with}
use Rattle.spec_netlist.specs.Accept.{nets, used, list_at_of, accepts}

-- the list words used, from list word p on
abbrev pub list_from : List ℕ → ℕ → List ℕ
list_from ws p = take (used ws - p) (drop (list_at_of ws + p) ws)

-- "It then gives nodes and records one by one": node n's six words are `node_word ws n 0` to `node_word ws n 5`, for n below `nets ws`
-- (their meaning is `NetlistImage.node_at_of ws n`); the record that begins at list word p is
unfoldable pub record_from : List ℕ → ℕ → List ℕ
record_from ws p = take (record_length (list_from ws p)) (list_from ws p)

-- the one after it begins at p and its length; at most n records from list word p on, up to the last list word used
unfoldable pub walked : List ℕ → ℕ → ℕ → List (List ℕ)
walked ws zero p = []
walked ws (suc n) p =
    let r = record_from ws p in
    let later = walked ws n (p + length r) in
    pick (p <? used ws) (r ∷ later) []

-- ---- the calls, for any words and numbers ----

-- there is a node n, and its words; six times 0 where there is none
unfoldable pub is_node : List ℕ → ℕ → Bool
is_node ws n = n <? nets ws

unfoldable pub node_given : List ℕ → ℕ → List ℕ
node_given ws n = pick (is_node ws n) (node_word ws n 0 ∷ node_word ws n 1 ∷ node_word ws n 2 ∷ node_word ws n 3 ∷ node_word ws n 4 ∷ node_word ws n 5 ∷ []) (0 ∷ 0 ∷ 0 ∷ 0 ∷ 0 ∷ 0 ∷ [])

-- the list words used from list word p on can be read as a record that fits; its sort, its length and the list word after it; three times 0
-- where they cannot. Of an accepted image such places are 0 and each list word after a record; another word is taken as it stands
unfoldable pub is_record : List ℕ → ℕ → Bool
is_record ws p = let l = list_from ws p in p <? used ws and get_or l 0 0 <? 5 and not (length l <? record_length l)

unfoldable pub record_given : List ℕ → ℕ → List ℕ
record_given ws p =
    let l = list_from ws p in
    pick (is_record ws p) (get_or l 0 0 ∷ record_length l ∷ (p + record_length l) ∷ []) (0 ∷ 0 ∷ 0 ∷ [])

-- ---- laws, as types ----

-- the records given one by one are those that `NetlistImage.netlist` reads
abbrev pub WalkedAll : Type 0
WalkedAll = (ws : List ℕ) → accepts ws ≡ Fine → walked ws (used ws) 0 ≡ records_of ws

-- "words past the list words used are not read"
abbrev pub OnlyThese : Type 0
OnlyThese = (ws rest : List ℕ) → list_at_of ws + used ws ≤ length ws → 16 ≤ length ws → accepts (ws ++ rest) ≡ accepts ws

-- "Every image that the lowering writes is accepted" (ob: false for document 01's entry, true for Q-7's)
abbrev pub LoweredAccepted : Bool → Type 0
LoweredAccepted ob =
    (s : List ℕ) (N P buffer scratch : ℕ) → checked s N P buffer scratch ≡ Fine → (l : Netlist) → lower_with ob (decode s) N P ≡ done l
    → accepts (words N P l) ≡ Fine

-- ".. and what is read is what was lowered"
pub record Same (ws : List ℕ) (l : Netlist) : Type 0 where
  pub count : nets ws ≡ length l.nodes
  pub kind : (k : ℕ) → k < nets ws → node_word ws k 0 ≡ (node_for_net l k).kind
  pub owner : (k : ℕ) → k < nets ws → node_word ws k 1 ≡ (node_for_net l k).owner
  pub bit : (k : ℕ) → k < nets ws → node_word ws k 2 ≡ (node_for_net l k).bit
  pub in0 : (k : ℕ) → k < nets ws → node_word ws k 3 ≡ (node_for_net l k).in0
  pub in1 : (k : ℕ) → k < nets ws → node_word ws k 4 ≡ (node_for_net l k).in1
  pub in2 : (k : ℕ) → k < nets ws → node_word ws k 5 ≡ (node_for_net l k).in2
  pub records : records_of ws ≡ l.records

abbrev pub RoundTrip : Bool → Type 0
RoundTrip ob =
    (s : List ℕ) (N P buffer scratch : ℕ) → checked s N P buffer scratch ≡ Fine → (l : Netlist) → lower_with ob (decode s) N P ≡ done l
    → Same (words N P l) l
