-- An accepted netlist's output ports, as the step rule shows them: each port's bits are the values of its nets. Assumes nothing.
use Prim.Native.Nat.{ℕ, zero, suc, ◌+◌, ◌<◌}
use Rattle.std.proofs.Common.{not-suc-le-zero, arith, subst, ◌∙◌, length-drop}
use Rattle.std.specs.Prelude.{◌≡◌, cond, length, take, drop}
use Rattle.std.proofs.Math.Path.{refl, sym, ap}
use Rattle.std.proofs.Math.Bool.{Bool, true, false, not}
use mathlib.Core.List.{List, [], ◌∷◌, ◌++◌, map, append_assoc, append-nil}
use Rattle.std.proofs.Math.Option
use Rattle.std.proofs.Math.Option.{Option, some}
use Rattle.std.proofs.Math.ListN.{get_or, get_elem?}
use Rattle.std.proofs.Math.Seq.{take-length}
use Rattle.spec_tests.specs.Rules.{◌≡?◌, pick, any, each, list_of, only, Fine}
use Rattle.spec_tests.specs.Laws.{or_no, lt_yes, no_ne, ne_no, eq_yes, eq_no, yes_eq, not_any}
use Rattle.spec_rules.specs.NetlistImage as N
use Rattle.spec_rules.specs.NetlistImage.{node_word, records_of, records_with, out_port_of, not_output, is_output_port, netlist}
use Rattle.spec_rules.specs.Step.{Setting, Contents, perhaps, seen, net, find_port, of_netlist}
use Rattle.spec_rules.specs.Listing.{together}
use Rattle.spec_netlist.specs.Accept.{nets, accepts}
use Rattle.spec_trace.specs.Opened.{ports_with, nets_with}
use Rattle.spec_trace.specs.Trace.{digit, shown}
use Rattle.law_trace.specs.Runs.{port_text, seen_text}
use Rattle.law_told.specs.Told.{untrue, neither, pick_yes, pick_no, Told, told, RightHere, Right}
use Rattle.law_told.proofs.Told.{records_right}
use Rattle.law_told.specs.Ports.{PortTold, port_told, one_port}
use Rattle.law_told.specs.Ordered.{only_append}
use Rattle.law_told.specs.If.{none_found}
use Rattle.law_sorts.specs.Found.{has_word}

-- ---- a record among the records ----

right_at : (ws : List ℕ) (earlier a : List (List ℕ)) (r : List ℕ) (b : List (List ℕ)) → Right ws earlier (a ++ (r ∷ b)) → RightHere ws (earlier ++ a) r
right_at ws earlier [] r b h = subst (λ (z : List (List ℕ)). RightHere ws z r) (sym (append-nil earlier)) h.0
right_at ws earlier (x ∷ a) r b h = subst (λ (z : List (List ℕ)). RightHere ws z r) (append_assoc earlier (x ∷ []) a) (right_at ws (earlier ++ (x ∷ [])) a r b h.1)

module _ (ws : List ℕ) (t : Told ws) where
  pub port_at : (a : List (List ℕ)) (r : List ℕ) (b : List (List ℕ)) → records_of ws ≡ a ++ (r ∷ b) → get_or r 0 0 ≡ 0 → PortTold ws a r
  port_at a r b e s =
      let h = right_at ws [] a r b (subst (Right ws []) e (records_right ws t)) in
      port_told ws a r h (has_word h) s

  -- ---- output ports ----

  output_port : (a : List (List ℕ)) (r : List ℕ) → PortTold ws a r → node_word ws (get_or r 3 0) 0 ≡ 8 → is_output_port ws r ≡ true
  unfolding is_output_port any not_output
  output_port a r p k = ap not (none_found (λ i. not_output ws (get_or r (3 + i) 0) (get_or r 1 0) i) (get_or r 2 0) each_one)
    where
      each_one : (i : ℕ) → i < get_or r 2 0 → not_output ws (get_or r (3 + i) 0) (get_or r 1 0) i ≡ false
      each_one i h =
          let o = p.net i h in
          neither _ _ (ap not (lt_yes (get_or r (3 + i) 0) (nets ws) o.there))
          (neither _ _ (ne_no (node_word ws (get_or r (3 + i) 0) 0) 8 (o.kind ∙ k))
          (neither _ _ (ne_no (node_word ws (get_or r (3 + i) 0) 1) (get_or r 1 0) o.owner) (ne_no (node_word ws (get_or r (3 + i) 0) 2) i o.bit)))

  output_kind : (a : List (List ℕ)) (r : List ℕ) → PortTold ws a r → is_output_port ws r ≡ true → node_word ws (get_or r 3 0) 0 ≡ 8
  unfolding is_output_port not_output
  output_kind a r p e =
      let s = p.some in
      let f = not_any (λ i. not_output ws (get_or r (3 + i) 0) (get_or r 1 0) i) (get_or r 2 0) (not_true (any (λ i. not_output ws (get_or r (3 + i) 0) (get_or r 1 0) i) (get_or r 2 0)) e) 0 (omega arith) in
      no_ne (node_word ws (get_or r 3 0) 0) 8 (or_no (or_no f).1).0
    where
      not_true : (b : Bool) → not b ≡ true → b ≡ false
      not_true true e = untrue e
      not_true false e = refl

-- ---- lists of those with a test ----

pub data Either (A B : Type 0) : Type 0 where
  this : A → Either A B
  that : B → Either A B

abbrev pub Mem : List ℕ → List (List ℕ) → Type 0
Mem r [] = ⊥
Mem r (x ∷ rs) = Either (x ≡ r) (Mem r rs)

pub record In (r : List ℕ) (rs : List (List ℕ)) : Type 0 where
  pub a : List (List ℕ)
  pub b : List (List ℕ)
  pub is : rs ≡ a ++ (r ∷ b)

pub mem_in : (r : List ℕ) (rs : List (List ℕ)) → Mem r rs → In r rs
mem_in r [] m = absurd m
mem_in r (x ∷ rs) (this e) = record { a = []; b = rs; is = ap (λ (z : List ℕ). z ∷ rs) e }
mem_in r (x ∷ rs) (that m) = let i = mem_in r rs m in record { a = x ∷ i.a; b = i.b; is = ap (λ (z : List (List ℕ)). x ∷ z) i.is }

-- the first output port of signal p: r, where no earlier one has that signal
find_here : (p : ℕ) (o : N.OutPort) (os : List N.OutPort) → o.signal ≡ p → find_port (o ∷ os) p ≡ o.nets
unfolding ◌≡?◌
find_here p o os e = ap (λ (c : Bool). cond c o.nets (find_port os p)) (eq_yes o.signal p e)

find_later : (p : ℕ) (o : N.OutPort) (os : List N.OutPort) → (o.signal ≡ p → ⊥) → find_port (o ∷ os) p ≡ find_port os p
unfolding ◌≡?◌
find_later p o os e = ap (λ (c : Bool). cond c o.nets (find_port os p)) (eq_no o.signal p e)

find_port_law : (q : List ℕ → Bool) (p : ℕ) (a : List (List ℕ)) (r : List ℕ) (b : List (List ℕ)) → q r ≡ true → get_or r 1 0 ≡ p
    → ((x : List ℕ) → Mem x a → q x ≡ true → get_or x 1 0 ≡ p → ⊥) → find_port (map out_port_of (only q (a ++ (r ∷ b)))) p ≡ take (get_or r 2 0) (drop 3 r)
unfolding only out_port_of
find_port_law q p [] r b e s h = ap (λ (z : List (List ℕ)). find_port (map out_port_of z) p) (pick_yes (q r) (r ∷ only q b) (only q b) e) ∙ find_here p (out_port_of r) (map out_port_of (only q b)) s
find_port_law q p (x ∷ a) r b e s h = at (q x) refl (find_port_law q p a r b e s (λ y i. h y (that i)))
  where
    at : (c : Bool) → q x ≡ c → find_port (map out_port_of (only q (a ++ (r ∷ b)))) p ≡ take (get_or r 2 0) (drop 3 r)
        → find_port (map out_port_of (pick (q x) (x ∷ only q (a ++ (r ∷ b))) (only q (a ++ (r ∷ b))))) p ≡ take (get_or r 2 0) (drop 3 r)
    at true f ih =
        ap (λ (z : List (List ℕ)). find_port (map out_port_of z) p) (pick_yes (q x) (x ∷ only q (a ++ (r ∷ b))) (only q (a ++ (r ∷ b))) f)
        ∙ find_later p (out_port_of x) (map out_port_of (only q (a ++ (r ∷ b)))) (h x (this refl) f) ∙ ih
    at false f ih = ap (λ (z : List (List ℕ)). find_port (map out_port_of z) p) (pick_no (q x) (x ∷ only q (a ++ (r ∷ b))) (only q (a ++ (r ∷ b))) f) ∙ ih

only_one : (q : List ℕ → Bool) (x : List ℕ) (xs : List (List ℕ)) → q x ≡ true → only q (x ∷ xs) ≡ x ∷ only q xs
unfolding only
only_one q x xs f = pick_yes (q x) (x ∷ only q xs) (only q xs) f

-- one with the test is one of all, with the test
pub mem_only : (p : List ℕ → Bool) (r : List ℕ) (rs : List (List ℕ)) → Mem r (only p rs) → Mem r rs × (p r ≡ true)
unfolding only pick
mem_only p r [] m = absurd m
mem_only p r (x ∷ rs) m = at (p x) refl m (mem_only p r rs)
  where
    more : Mem r rs × (p r ≡ true) → Mem r (x ∷ rs) × (p r ≡ true)
    more h = (that h.0, h.1)

    at : (b : Bool) → p x ≡ b → Mem r (pick b (x ∷ only p rs) (only p rs)) → (Mem r (only p rs) → Mem r rs × (p r ≡ true)) → Mem r (x ∷ rs) × (p r ≡ true)
    at true e (this f) ih = (this f, ap p (sym f) ∙ e)
    at true e (that f) ih = more (ih f)
    at false e f ih = more (ih f)

module _ (ws : List ℕ) (t : Told ws) where
  -- the nets that the step rule finds for the signal of an output port
  pub port_nets_law : (a : List (List ℕ)) (r : List ℕ) (b : List (List ℕ)) → records_of ws ≡ a ++ (r ∷ b) → get_or r 0 0 ≡ 0 → node_word ws (get_or r 3 0) 0 ≡ 8
      → find_port (netlist ws).outputs (get_or r 1 0) ≡ take (get_or r 2 0) (drop 3 r)
  unfolding netlist records_with
  port_nets_law a r b e s k =
      let p = port_at ws t a r b e s in
      let sort : List ℕ → Bool = λ r. get_or r 0 0 ≡? 0 in
      ap (λ (z : List (List ℕ)). find_port (map out_port_of (only (is_output_port ws) (only sort z))) (get_or r 1 0)) e
      ∙ ap (λ (z : List (List ℕ)). find_port (map out_port_of (only (is_output_port ws) z)) (get_or r 1 0))
      (only_append sort a (r ∷ b) ∙ ap (λ (z : List (List ℕ)). only sort a ++ z) (only_one sort r b (eq_yes (get_or r 0 0) 0 s)))
      ∙ find_port_law (is_output_port ws) (get_or r 1 0) (only sort a) r (only sort b) (output_port ws t a r p k) refl
      (λ x m o f.
      let g = mem_only sort x a m in
      let i = mem_in x a g.0 in
      let z : records_of ws ≡ i.a ++ (x ∷ (i.b ++ (r ∷ b))) = e ∙ ap (λ (y : List (List ℕ)). y ++ (r ∷ b)) i.is ∙ append_assoc i.a (x ∷ i.b) (r ∷ b) in
      let h = yes_eq (get_or x 0 0) 0 g.1 in
      let u = port_at ws t i.a x (i.b ++ (r ∷ b)) z h in
      one_port ws t i.a a i.a i.b x r u p i.is h f (output_kind ws t i.a x u o ∙ sym k))

-- ---- what is shown ----

each_map : (f φ : ℕ → ℕ) (i : ℕ) (xs : List ℕ) → ((j : ℕ) → j < length xs → f (i + j) ≡ φ (get_or xs j 0)) → each f i (length xs) ≡ map φ xs
unfolding each
each_map f φ i [] h = refl
each_map f φ i (x ∷ xs) h =
    let a : i ≡ i + 0 = omega arith in
    let b : f i ≡ φ x = ap f a ∙ h 0 (omega arith) in
    let c = each_map f φ (suc i) xs (λ j l. let z : suc i + j ≡ i + suc j = omega arith in ap f z ∙ h (suc j) (omega arith)) in
    (λ k. b k ∷ c k)

pub elem_get : (xs : List ℕ) (j : ℕ) → j < length xs → get_elem? xs j ≡ some (get_or xs j 0)
elem_get [] j h = absurd (not-suc-le-zero h)
elem_get (x ∷ xs) zero h = refl
elem_get (x ∷ xs) (suc j) h = elem_get xs j (omega arith)

together_map : (g : ℕ → ℕ) (f h : List ℕ → List ℕ) (rs : List (List ℕ)) → ((r : List ℕ) → Mem r rs → map g (f r) ≡ h r) → map g (together (map f rs)) ≡ together (map h rs)
unfolding together
together_map g f h [] e = refl
together_map g f h (r ∷ rs) e = map_append (f r) (together (map f rs)) ∙ rw (e r (this refl), together_map g f h rs (λ x m. e x (that m)))
  where
    map_append : (xs ys : List ℕ) → map g (xs ++ ys) ≡ map g xs ++ map g ys
    map_append [] ys = refl
    map_append (x ∷ xs) ys = ap (λ (z : List ℕ). g x ∷ z) (map_append xs ys)

text_of : (g : ℕ → Bool) (fs r : List ℕ) → length (drop 3 r) ≡ get_or r 2 0 → fs ≡ drop 3 r
    → map (λ k. digit (g k)) (drop 3 r) ≡ list_of (get_or r 2 0) (λ i. digit (perhaps false (λ b. b) (Option.map g (get_elem? fs i))))
unfolding list_of
text_of g fs r l e =
    sym (each_map (λ i. digit (perhaps false (λ b. b) (Option.map g (get_elem? fs i)))) (λ k. digit (g k)) 0 (drop 3 r) (λ j h.
    let z : 0 + j ≡ j = omega arith in
    ap (λ (i : ℕ). digit (perhaps false (λ b. b) (Option.map g (get_elem? fs i)))) z
    ∙ ap (λ (ys : List ℕ). digit (perhaps false (λ b. b) (Option.map g (get_elem? ys j)))) e
    ∙ ap (λ (o : Option ℕ). digit (perhaps false (λ b. b) (Option.map g o))) (elem_get (drop 3 r) j h)))
    ∙ ap (each (λ i. digit (perhaps false (λ b. b) (Option.map g (get_elem? fs i)))) 0) l

-- the printed bits are those that the step rule shows
pub shown_seen : (ws : List ℕ) → accepts ws ≡ Fine → (s : Setting) (c : Contents) → shown ws s c ≡ seen_text ws (seen (of_netlist (netlist ws)) s c)
unfolding shown seen_text nets_with ports_with port_text records_with
shown_seen ws e s c =
    ap (λ (z : List ℕ). z ++ (10 ∷ []))
    (together_map (λ k. digit (net (netlist ws) s c k)) (drop 3) (port_text (seen (of_netlist (netlist ws)) s c)) (ports_with 8 ws) (λ r m. one r m))
  where
    t : Told ws
    t = told ws e

    one : (r : List ℕ) → Mem r (ports_with 8 ws) → map (λ k. digit (net (netlist ws) s c k)) (drop 3 r) ≡ port_text (seen (of_netlist (netlist ws)) s c) r
    one r m =
        let o = mem_only (λ r. node_word ws (get_or r 3 0) 0 ≡? 8) r (records_with 0 ws) m in
        let i = mem_only (λ r. get_or r 0 0 ≡? 0) r (records_of ws) o.0 in
        let k = yes_eq (node_word ws (get_or r 3 0) 0) 8 o.1 in
        let z = yes_eq (get_or r 0 0) 0 i.1 in
        let x = mem_in r (records_of ws) i.0 in
        let l = (port_at ws t x.a r x.b x.is z).long in
        let d = length-drop 3 r in
        let n : length (drop 3 r) ≡ get_or r 2 0 = omega arith in
        text_of (net (netlist ws) s c) (find_port (netlist ws).outputs (get_or r 1 0)) r n
        (port_nets_law ws t x.a r x.b x.is z k ∙ ap (λ (w : ℕ). take w (drop 3 r)) (sym n) ∙ take-length (drop 3 r))
