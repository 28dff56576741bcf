-- An accepted netlist is ordered: gates, output nodes and cells read lower nets only. Assumes nothing.
use Rattle.std.specs.Prelude.{ℕ, zero, suc, ◌+◌, ◌*◌, ◌-◌, ◌≤◌, ◌<◌, ◌≡◌, refl, Bool, false, not, List, [], ◌∷◌, ◌++◌, map, length, take, drop}
use Rattle.std.proofs.Common.{not-suc-le-zero, arith, sym, ap, ◌∙◌, length-take, length-drop, length-append, get_or-take, get_or-drop}
use Rattle.std.proofs.Math.Bool.{true}
use Rattle.std.proofs.Math.Option.{Option, none, some}
use Rattle.std.proofs.Math.ListN.{get_or, get_or-append}
use Rattle.spec_tests.specs.Rules.{◌<?◌, ◌≡?◌, ◌≢?◌, ◌or◌, ◌and◌, pick, each, only}
use Rattle.spec_tests.specs.Laws.{or_no, no_lt, yes_lt, no_eq, eq_yes, eq_no, ne_yes, lt_yes}
use Rattle.spec_rules.specs.Image.{absent, optional}
use Rattle.spec_rules.specs.NetlistImage as N
use Rattle.spec_rules.specs.NetlistImage.{Netlist, node_word, node_of, records_of, records_with, arithmetic_of, comparison_of}
use Rattle.spec_netlist.specs.Accept.{nets, belongs, input_count, wrong_input, wrong_node_word, member, own_nets, count_of, not_above, wrong_word}
use Rattle.law_told.specs.Told.{untrue, both, and_second, pick_yes, pick_no, Told, few, node_right, RightHere, Owner}
use Rattle.law_told.specs.Members.{no_member, member_split, member_one}
use Rattle.law_told.specs.Owned.{not_false, Within, within, word_in, CellOwn, register_own, port_own, arithmetic_own, comparison_own, memory_own}

-- ---- the nets that a node reads ----

unfoldable pub carry_nets : Option ℕ → List ℕ
carry_nets none = []
carry_nets (some k) = k ∷ []

unfoldable pub arithmetic_nets : N.Arithmetic → List ℕ
arithmetic_nets x = x.lhs ++ (x.rhs ++ carry_nets x.carry)

-- those whose values the step rule takes for the node's own: a cell output's are all inputs of its cell
unfoldable pub read_by : Netlist → N.Node → List ℕ
read_by n (N.Input p i) = []
read_by n (N.Constant b) = []
read_by n (N.And a b) = a ∷ b ∷ []
read_by n (N.Or a b) = a ∷ b ∷ []
read_by n (N.Xor a b) = a ∷ b ∷ []
read_by n (N.Not a) = a ∷ []
read_by n (N.Mux x a b) = x ∷ a ∷ b ∷ []
read_by n (N.RegisterOutput r i) = []
read_by n (N.Output a) = a ∷ []
read_by n (N.MemoryOutput k i) = []
read_by n (N.ArithmeticOutput k i) = arithmetic_nets (get_or n.arithmetic k (record { operation = N.Add; carry = none; lhs = []; rhs = [] }))
read_by n (N.ComparisonOutput k) = let x = get_or n.comparisons k (record { relation = N.LessU; lhs = []; rhs = [] }) in x.lhs ++ x.rhs

-- every net that a node reads is a lower one
pub record Ordered (n : Netlist) : Type 0 where
  pub lower : (k j : ℕ) → k < length n.nodes → member j (read_by n (get_or n.nodes k (N.Constant false))) ≡ true → j < k

-- ---- a cell's inputs ----

pub above_at : (x : ℕ) (ys : List ℕ) → not_above x ys ≡ false → (i : ℕ) → i < length ys → get_or ys i 0 < x
unfolding not_above
above_at x [] e i h = absurd (not-suc-le-zero h)
above_at x (y ∷ ys) e zero h = yes_lt y x (not_false (y <? x) (or_no e).0)
above_at x (y ∷ ys) e (suc i) h = above_at x ys (or_no e).1 i (omega arith)

-- word p + i of a record, where all of n words from p on are below k
pub below_at : (r rest : List ℕ) (k p n : ℕ) → not_above k (take n (drop p (r ++ rest))) ≡ false → (i : ℕ) → i < n → p + i < length r → get_or r (p + i) 0 < k
below_at r rest k p n e i h l =
    let a = length-take n (drop p (r ++ rest)) in
    let b = length-drop p (r ++ rest) in
    let c = length-append r rest in
    let f : get_or (take n (drop p (r ++ rest))) i 0 ≡ get_or r (p + i) 0 =
    get_or-take n (drop p (r ++ rest)) i 0 h ∙ get_or-drop p (r ++ rest) i 0 ∙ get_or-append r rest 0 (p + i) l in
    let g = above_at k (take n (drop p (r ++ rest))) e i (omega arith) in
    omega arith

carry_lower : (c k j : ℕ) → (c ≢? absent and not (c <? k)) ≡ false → member j (carry_nets (optional c c)) ≡ true → j < k
unfolding optional pick carry_nets
carry_lower c k j e m = at (c ≡? absent) refl m
  where
    at : (b : Bool) → (c ≡? absent) ≡ b → member j (carry_nets (pick b none (some c))) ≡ true → j < k
    at true f x = no_member j x
    at false f x =
        let q = member_one j c x in
        let z = yes_lt c k (not_false (c <? k) (and_second (c ≢? absent) (not (c <? k)) e (ne_yes c absent (no_eq c absent f)))) in
        omega arith

pub arithmetic_lower : (r rest : List ℕ) (k : ℕ) → 3 < length r → not_above k (take (2 * get_or (r ++ rest) 2 0) (drop 4 (r ++ rest))) ≡ false
    → (get_or (r ++ rest) 3 0 ≢? absent and not (get_or (r ++ rest) 3 0 <? k)) ≡ false → (j : ℕ) → member j (arithmetic_nets (arithmetic_of r)) ≡ true → j < k
unfolding arithmetic_nets arithmetic_of
arithmetic_lower r rest k l e c j m =
    let w = get_or r 2 0 in
    let v : get_or (r ++ rest) 2 0 ≡ w = get_or-append r rest 0 2 (omega arith) in
    let u : get_or (r ++ rest) 3 0 ≡ get_or r 3 0 = get_or-append r rest 0 3 l in
    let a : not_above k (take (2 * w) (drop 4 (r ++ rest))) ≡ false = rw v at e in
    let d : (get_or r 3 0 ≢? absent and not (get_or r 3 0 <? k)) ≡ false = rw u at c in
    member_split j (take w (drop 4 r)) (take w (drop (4 + w) r) ++ carry_nets (optional (get_or r 3 0) (get_or r 3 0))) m
    (λ x. let s = within j 4 w r x in let n = s.narrow in let i = s.inside in let z = below_at r rest k 4 (2 * w) a s.at (omega arith) i in let q = s.is in omega arith)
    (λ y. member_split j (take w (drop (4 + w) r)) (carry_nets (optional (get_or r 3 0) (get_or r 3 0))) y
    (λ x.
    let s = within j (4 + w) w r x in
    let n = s.narrow in
    let i = s.inside in
    let z = below_at r rest k 4 (2 * w) a (w + s.at) (omega arith) (omega arith) in
    let q = s.is in
    let f : 4 + w + s.at ≡ 4 + (w + s.at) = omega arith in
    let g : get_or r (4 + (w + s.at)) 0 ≡ j = rw f at q in
    omega arith)
    (λ x. carry_lower (get_or r 3 0) k j d x))

pub comparison_lower : (r rest : List ℕ) (k : ℕ) → 2 < length r → not_above k (take (2 * get_or (r ++ rest) 2 0) (drop 3 (r ++ rest))) ≡ false
    → (j : ℕ) → member j ((comparison_of r).lhs ++ (comparison_of r).rhs) ≡ true → j < k
unfolding comparison_of
comparison_lower r rest k l e j m =
    let w = get_or r 2 0 in
    let v : get_or (r ++ rest) 2 0 ≡ w = get_or-append r rest 0 2 (omega arith) in
    let a : not_above k (take (2 * w) (drop 3 (r ++ rest))) ≡ false = rw v at e in
    member_split j (take w (drop 3 r)) (take w (drop (3 + w) r)) m
    (λ x. let s = within j 3 w r x in let n = s.narrow in let i = s.inside in let z = below_at r rest k 3 (2 * w) a s.at (omega arith) i in let q = s.is in omega arith)
    (λ x.
    let s = within j (3 + w) w r x in
    let n = s.narrow in
    let i = s.inside in
    let z = below_at r rest k 3 (2 * w) a (w + s.at) (omega arith) (omega arith) in
    let q = s.is in
    let f : 3 + w + s.at ≡ 3 + (w + s.at) = omega arith in
    let g : get_or r (3 + (w + s.at)) 0 ≡ j = rw f at q in
    omega arith)

-- ---- which record a cell output has ----

pub sort_right : (ws : List ℕ) (earlier : List (List ℕ)) (r : List ℕ) → RightHere ws earlier r → 0 < length r → get_or r 0 0 ≤ 4
unfolding wrong_word ◌≡?◌ pick
sort_right ws earlier r h l =
    let a = word_in ws earlier r h 0 l in
    let b = no_lt 4 (get_or (r ++ h.rest) 0 0) (or_no (h.right 0 l)).0 in
    omega arith

module _ (ws : List ℕ) (k : ℕ) (o : Owner ws (records_of ws) k) where
  abbrev pub r : List ℕ
  r = o.r

  pub record Cell (kind : ℕ) (t : ℕ) (inputs : List ℕ) : Type 0 where
    pub sort : get_or r 0 0 ≡ t
    pub owns : CellOwn ws o.earlier r o.here k kind (count_of t o.earlier) inputs
    pub long : 3 < length r

  abbrev L : List ℕ
  L = r ++ o.here.rest

  pub record ArithmeticCell : Type 0 where
    pub cell : Cell 10 3 (take (2 * get_or L 2 0) (drop 4 L))
    pub carry : (get_or L 3 0 ≢? absent and not (get_or L 3 0 <? k)) ≡ false

  -- a port's, a register's, a memory's node is none of a cell's
  port_not : (kind : ℕ) → 8 < kind → node_word ws k 0 ≡ kind → get_or r 0 0 ≡ 0 → ⊥
  unfolding own_nets
  port_not kind b e t =
      let s = within k 3 (get_or r 2 0) r (ap (member k) (sym (pick_yes (get_or r 0 0 ≡? 0) _ _ (eq_yes (get_or r 0 0) 0 t))) ∙ o.owns) in
      let p = port_own ws o.earlier r o.here k (get_or r 2 0) t s in
      let q = p.1 in
      let x = node_word ws (get_or L 3 0) 0 in
      let y : (x ≢? 0 and x ≢? 8) ≡ true = both (x ≢? 0) (x ≢? 8) (ne_yes x 0 (λ z. absurd (omega arith))) (ne_yes x 8 (λ z. absurd (omega arith))) in
      untrue (sym p.0 ∙ y)

  register_not : (kind : ℕ) → 8 < kind → node_word ws k 0 ≡ kind → get_or r 0 0 ≡ 1 → ⊥
  unfolding own_nets
  register_not kind b e t =
      let s = within k 3 1 r (ap (member k) (sym (pick_no (get_or r 0 0 ≡? 0) _ _ (eq_no (get_or r 0 0) 0 (λ z. absurd (omega arith)))
      ∙ pick_yes (get_or r 0 0 ≡? 1) _ _ (eq_yes (get_or r 0 0) 1 t))) ∙ o.owns) in
      let p = (register_own ws o.earlier r o.here k t s).kind in
      absurd (omega arith)

  memory_not : (kind : ℕ) → 9 < kind → node_word ws k 0 ≡ kind → get_or r 0 0 ≡ 2 → ⊥
  unfolding own_nets
  memory_not kind b e t =
      let p = memory_own ws o.earlier r o.here t k (ap (member k) (sym (pick_no (get_or r 0 0 ≡? 0) _ _ (eq_no (get_or r 0 0) 0 (λ z. absurd (omega arith)))
      ∙ pick_no (get_or r 0 0 ≡? 1) _ _ (eq_no (get_or r 0 0) 1 (λ z. absurd (omega arith))) ∙ pick_yes (get_or r 0 0 ≡? 2) _ _ (eq_yes (get_or r 0 0) 2 t))) ∙ o.owns) in
      absurd (omega arith)

  pub arithmetic_there : get_or r 0 0 ≡ 3 → Within k (4 + 2 * get_or r 2 0) (get_or r 2 0) r
  unfolding own_nets
  arithmetic_there t =
      within k (4 + 2 * get_or r 2 0) (get_or r 2 0) r (ap (member k) (sym (pick_no (get_or r 0 0 ≡? 0) _ _ (eq_no (get_or r 0 0) 0 (λ z. absurd (omega arith)))
      ∙ pick_no (get_or r 0 0 ≡? 1) _ _ (eq_no (get_or r 0 0) 1 (λ z. absurd (omega arith))) ∙ pick_no (get_or r 0 0 ≡? 2) _ _ (eq_no (get_or r 0 0) 2 (λ z. absurd (omega arith)))
      ∙ pick_yes (get_or r 0 0 ≡? 3) _ _ (eq_yes (get_or r 0 0) 3 t))) ∙ o.owns)

  pub comparison_there : 3 < get_or r 0 0 → Within k (3 + 2 * get_or r 2 0) 1 r
  unfolding own_nets
  comparison_there t =
      within k (3 + 2 * get_or r 2 0) 1 r (ap (member k) (sym (pick_no (get_or r 0 0 ≡? 0) _ _ (eq_no (get_or r 0 0) 0 (λ z. absurd (omega arith)))
      ∙ pick_no (get_or r 0 0 ≡? 1) _ _ (eq_no (get_or r 0 0) 1 (λ z. absurd (omega arith))) ∙ pick_no (get_or r 0 0 ≡? 2) _ _ (eq_no (get_or r 0 0) 2 (λ z. absurd (omega arith)))
      ∙ pick_no (get_or r 0 0 ≡? 3) _ _ (eq_no (get_or r 0 0) 3 (λ z. absurd (omega arith))))) ∙ o.owns)

  pub arithmetic_cell_law : node_word ws k 0 ≡ 10 → ArithmeticCell
  arithmetic_cell_law e = go (get_or r 0 0) refl
    where
      go : (t : ℕ) → get_or r 0 0 ≡ t → ArithmeticCell
      go zero f = absurd (port_not 10 (omega arith) e f)
      go (suc zero) f = absurd (register_not 10 (omega arith) e f)
      go (suc (suc zero)) f = absurd (memory_not 10 (omega arith) e f)
      go (suc (suc (suc zero))) f =
          let s = arithmetic_there f in
          let i = s.inside in
          let p = arithmetic_own ws o.earlier r o.here k f s in
          record { cell = record { sort = f; owns = p.0; long = omega arith }; carry = p.1 }
      go (suc (suc (suc (suc t)))) f =
          let p = (comparison_own ws o.earlier r o.here k (omega arith) (comparison_there (omega arith))).node in
          absurd (omega arith)

  pub comparison_cell_law : node_word ws k 0 ≡ 11 → Cell 11 4 (take (2 * get_or L 2 0) (drop 3 L))
  comparison_cell_law e = go (get_or r 0 0) refl
    where
      go : (t : ℕ) → get_or r 0 0 ≡ t → Cell 11 4 (take (2 * get_or L 2 0) (drop 3 L))
      go zero f = absurd (port_not 11 (omega arith) e f)
      go (suc zero) f = absurd (register_not 11 (omega arith) e f)
      go (suc (suc zero)) f = absurd (memory_not 11 (omega arith) e f)
      go (suc (suc (suc zero))) f = let p = (arithmetic_own ws o.earlier r o.here k f (arithmetic_there f)).0.node in absurd (omega arith)
      go (suc (suc (suc (suc t)))) f =
          let s = comparison_there (omega arith) in
          let i = s.inside in
          let b = sort_right ws o.earlier r o.here (omega arith) in
          let z : get_or r 0 0 ≡ 4 = omega arith in
          record { sort = z; owns = comparison_own ws o.earlier r o.here k (omega arith) s; long = omega arith }

-- ---- the cell of that number ----

pub only_append : (p : List ℕ → Bool) (xs ys : List (List ℕ)) → only p (xs ++ ys) ≡ only p xs ++ only p ys
unfolding only pick
only_append p [] ys = refl
only_append p (x ∷ xs) ys = at (p x) (only_append p xs ys)
  where
    at : (b : Bool) → only p (xs ++ ys) ≡ only p xs ++ only p ys → pick b (x ∷ only p (xs ++ ys)) (only p (xs ++ ys)) ≡ pick b (x ∷ only p xs) (only p xs) ++ only p ys
    at true e = ap (λ (z : List (List ℕ)). x ∷ z) e
    at false e = e

get_d_map : {B : Type 0} (f : List ℕ → B) (d : B) (xs : List (List ℕ)) (r : List ℕ) (ys : List (List ℕ)) → get_or (map f (xs ++ (r ∷ ys))) (length xs) d ≡ f r
get_d_map f d [] r ys = refl
get_d_map f d (x ∷ xs) r ys = get_d_map f d xs r ys

pub cell_number : {B : Type 0} (f : List ℕ → B) (d : B) (ws : List ℕ) (t : ℕ) (earlier : List (List ℕ)) (r : List ℕ) (later : List (List ℕ))
    → records_of ws ≡ earlier ++ (r ∷ later) → get_or r 0 0 ≡ t → get_or (map f (records_with t ws)) (count_of t earlier) d ≡ f r
unfolding records_with count_of only
cell_number f d ws t earlier r later e s =
    rw (e, only_append (λ r. get_or r 0 0 ≡? t) earlier (r ∷ later), pick_yes (get_or r 0 0 ≡? t) (r ∷ only (λ r. get_or r 0 0 ≡? t) later) (only (λ r. get_or r 0 0 ≡? t) later) (eq_yes (get_or r 0 0) t s))
    (get_d_map f d (only (λ r. get_or r 0 0 ≡? t) earlier) r (only (λ r. get_or r 0 0 ≡? t) later))

-- ---- a node's inputs ----

input_lower : (k kind i x : ℕ) → i < input_count kind → wrong_input k kind i x ≡ false → x < k
unfolding wrong_input
input_lower k kind i x h e = yes_lt x k (not_false (x <? k) (sym (pick_yes (i <? input_count kind) _ _ (lt_yes i (input_count kind) h)) ∙ e))

one : (x k j : ℕ) → x < k → member j (x ∷ []) ≡ true → j < k
one x k j h m = let e = member_one j x m in omega arith

two : (x y k j : ℕ) → x < k → y < k → member j (x ∷ y ∷ []) ≡ true → j < k
two x y k j h g m = member_split j (x ∷ []) (y ∷ []) m (one x k j h) (one y k j g)

three : (x y z k j : ℕ) → x < k → y < k → z < k → member j (x ∷ y ∷ z ∷ []) ≡ true → j < k
three x y z k j h g f m = member_split j (x ∷ []) (y ∷ z ∷ []) m (one x k j h) (two y z k j g f)

abbrev pub no_arithmetic : N.Arithmetic
no_arithmetic = record { operation = N.Add; carry = none; lhs = []; rhs = [] }

abbrev pub no_comparison : N.Comparison
no_comparison = record { relation = N.LessU; lhs = []; rhs = [] }

pub by_kind : (n : Netlist) (k kind o b x y z : ℕ) → wrong_input k kind 0 x ≡ false → wrong_input k kind 1 y ≡ false → wrong_input k kind 2 z ≡ false
    → (kind ≡ 10 → (j : ℕ) → member j (arithmetic_nets (get_or n.arithmetic o no_arithmetic)) ≡ true → j < k)
    → (kind ≡ 11 → (j : ℕ) → member j ((get_or n.comparisons o no_comparison).lhs ++ (get_or n.comparisons o no_comparison).rhs) ≡ true → j < k)
    → (j : ℕ) → member j (read_by n (node_of kind o b x y z)) ≡ true → j < k
unfolding node_of read_by input_count
by_kind n k zero o b x y z e f g c d j m = no_member j m
by_kind n k (suc zero) o b x y z e f g c d j m = no_member j m
by_kind n k (suc (suc zero)) o b x y z e f g c d j m = two x y k j (input_lower k 2 0 x (omega arith) e) (input_lower k 2 1 y (omega arith) f) m
by_kind n k (suc (suc (suc zero))) o b x y z e f g c d j m = two x y k j (input_lower k 3 0 x (omega arith) e) (input_lower k 3 1 y (omega arith) f) m
by_kind n k (suc (suc (suc (suc zero)))) o b x y z e f g c d j m = two x y k j (input_lower k 4 0 x (omega arith) e) (input_lower k 4 1 y (omega arith) f) m
by_kind n k (suc (suc (suc (suc (suc zero))))) o b x y z e f g c d j m = one x k j (input_lower k 5 0 x (omega arith) e) m
by_kind n k (suc (suc (suc (suc (suc (suc zero)))))) o b x y z e f g c d j m =
    three x y z k j (input_lower k 6 0 x (omega arith) e) (input_lower k 6 1 y (omega arith) f) (input_lower k 6 2 z (omega arith) g) m
by_kind n k (suc (suc (suc (suc (suc (suc (suc zero))))))) o b x y z e f g c d j m = no_member j m
by_kind n k (suc (suc (suc (suc (suc (suc (suc (suc zero)))))))) o b x y z e f g c d j m = one x k j (input_lower k 8 0 x (omega arith) e) m
by_kind n k (suc (suc (suc (suc (suc (suc (suc (suc (suc zero))))))))) o b x y z e f g c d j m = no_member j m
by_kind n k (suc (suc (suc (suc (suc (suc (suc (suc (suc (suc zero)))))))))) o b x y z e f g c d j m = c refl j m
by_kind n k (suc (suc (suc (suc (suc (suc (suc (suc (suc (suc (suc zero))))))))))) o b x y z e f g c d j m = d refl j m
by_kind n k (suc (suc (suc (suc (suc (suc (suc (suc (suc (suc (suc (suc kind)))))))))))) o b x y z e f g c d j m = no_member j m

-- ---- the whole ----

pub length_each : {A : Type 0} (f : ℕ → A) (i n : ℕ) → length (each f i n) ≡ n
unfolding each
length_each f i zero = refl
length_each f i (suc n) = ap suc (length_each f (suc i) n)

pub get_or_each : {A : Type 0} (f : ℕ → A) (i n k : ℕ) (d : A) → k < n → get_or (each f i n) k d ≡ f (i + k)
unfolding each
get_or_each f i zero k d h = absurd (not-suc-le-zero h)
get_or_each f i (suc n) zero d h = let e : i ≡ i + 0 = omega arith in ap f e
get_or_each f i (suc n) (suc k) d h = let e : suc i + k ≡ i + suc k = omega arith in get_or_each f (suc i) n k d (omega arith) ∙ ap f e

pub input_right : (ws : List ℕ) → Told ws → (k : ℕ) → k < nets ws → (i : ℕ) → i < 3 → wrong_input k (node_word ws k 0) i (node_word ws k (3 + i)) ≡ false
unfolding wrong_node_word
input_right ws t k h i l =
    let b = few ws t in
    let s : 3 + i - 3 ≡ i = omega arith in
    rw s at (sym (pick_no (not (k <? nets ws)) _ _ (ap not (lt_yes k (nets ws) h)) ∙ pick_no (3 + i ≡? 0) _ _ (eq_no (3 + i) 0 (λ z. absurd (omega arith)))
    ∙ pick_no (3 + i ≡? 1) _ _ (eq_no (3 + i) 1 (λ z. absurd (omega arith))) ∙ pick_no (3 + i ≡? 2) _ _ (eq_no (3 + i) 2 (λ z. absurd (omega arith))))
    ∙ node_right ws t k (3 + i) (omega arith) (omega arith))

pub belongs_cell : (k : ℕ) → 6 < k → belongs k ≡ true
unfolding belongs ◌or◌
belongs_cell k h = go (k ≡? 0)
  where
    go : (b : Bool) → (b or 6 <? k) ≡ true
    go true = refl
    go false = lt_yes 6 k h
