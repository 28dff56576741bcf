-- Trees of gates, and equality. Assumes nothing.
use Rattle.std.specs.Prelude.{◌≡◌, Bool, not, ◌&&◌, ◌||◌}
use Rattle.std.proofs.Math.Path.{refl, ap}
use Rattle.std.proofs.Common.{sym, ◌∙◌, arith, ltb-false}
use Rattle.std.proofs.Math.Bool.{true, false, and_assoc, or_assoc, and-true, or-false}
use mathlib.Core.List.{List, [], ◌∷◌, map, foldr}
use Prim.Native.Nat.{ℕ, zero, suc, ◌≤◌, ◌<◌}
use Rattle.std.proofs.Math.Dec.{ltb}
use Rattle.std.proofs.Math.ListN.{length, length-map}
use Rattle.spec_rtl.specs.Ops.{xor_b, eq_w, all_r, map2}
use Rattle.spec_rules.specs.Step.{Contents}
use Rattle.spec_model.specs.Words.{Netlist}
use Rattle.spec_model.specs.Builder.{done, and_then, both}
use Rattle.spec_model.specs.Ranges.{Gate, AndGate, OrGate, XorGate}
use Rattle.spec_model.specs.Lowering.{add_gate, level, levels, reduce_tree, add_equal, equal_words}
use Rattle.word_laws.specs.Widths.{AllBelow}
use Rattle.word_laws.specs.Tree.{pairs, pairs_fold, fewer_pairs, xor_assoc, xor_false, alike, alike_all}
use Rattle.law_nets.specs.Meaning.{net_value}
use Rattle.law_nets.specs.Sound.{count, Sound, At, StandsAll}
use Rattle.law_nets.specs.Run.{below_more, Run}
use Rattle.law_nets.proofs.Run.{later_count, later_trans, stands_later, stands_as, all_self, all_as, all_nil, all_cons, all_length, run_here, run_bind, run_map}
use Rattle.law_gates.specs.Gates.{Op2, and_run, or_run, xor_run, not_run}
use Rattle.law_gates.specs.Many.{both_run, constants_run}

abbrev pub gate_op : Gate → Bool → Bool → Bool
gate_op AndGate = ◌&&◌
gate_op OrGate = ◌||◌
gate_op XorGate = xor_b

abbrev pub gate_unit : Gate → Bool
gate_unit AndGate = true
gate_unit OrGate = false
gate_unit XorGate = false

pub gate_run : (g : Gate) (a b : ℕ) (l : Netlist) → Sound l → a < count l → b < count l → Run l (Op2 (gate_op g) a b) (add_gate g a b l)
gate_run AndGate a b l q ha hb = and_run a b l q ha hb
gate_run OrGate a b l q ha hb = or_run a b l q ha hb
gate_run XorGate a b l q ha hb = xor_run a b l q ha hb

pub gates_run : (g : Gate) (xs ys : List ℕ) (l : Netlist) → Sound l → AllBelow (count l) xs → AllBelow (count l) ys
    → Run l (λ zs l'. StandsAll l' zs (λ h s c. map2 (gate_op g) (map (net_value h s c) xs) (map (net_value h s c) ys))) (both (add_gate g) xs ys l)
gates_run g xs ys l q b d = both_run (add_gate g) (λ h s c. gate_op g) 0 (λ x y l q n hx hy. gate_run g x y l q hx hy) xs ys l q (omega arith) b d

gate_unit_law : (g : Gate) (x : Bool) → gate_op g x (gate_unit g) ≡ x
gate_unit_law AndGate x = and-true x
gate_unit_law OrGate x = or-false x
gate_unit_law XorGate x = xor_false x

gate_assoc : (g : Gate) (x y z : Bool) → gate_op g (gate_op g x y) z ≡ gate_op g x (gate_op g y z)
gate_assoc AndGate x y z = and_assoc x y z
gate_assoc OrGate x y z = or_assoc x y z
gate_assoc XorGate x y z = xor_assoc x y z

-- any contents, to read a width
nothing : Contents
nothing = record { reg = λ k i. false; dat = λ k second i. false; mem = λ k a i. false }

module _ (g : Gate) where
  pub level_run : (xs : List ℕ) (l : Netlist) → Sound l → AllBelow (count l) xs → Run l (λ zs l'. StandsAll l' zs (λ h s c. pairs (gate_op g) (map (net_value h s c) xs))) (level g xs l)
  unfolding level
  level_run [] l q b = run_here q all_nil
  level_run (x ∷ []) l q b = run_here q (all_self (x ∷ []) b)
  level_run (x ∷ y ∷ xs) l q b = run_bind _ (gate_run g x y l q b.0 b.1.0) (λ z l' e v.
      run_bind _ (level_run xs l' e.sound (below_more _ _ xs (later_count e) b.1.1)) (λ zs l'' e' w.
      run_here e'.sound (all_cons (stands_later e' v) w)))

  abbrev Folded : List ℕ → At (List Bool)
  Folded xs h s c = foldr (gate_op g) (gate_unit g) (map (net_value h s c) xs) ∷ []

  one_left : (xs : List ℕ) (l : Netlist) → Sound l → AllBelow (count l) xs → 0 < length xs → length xs ≤ 1 → Run l (λ zs l'. StandsAll l' zs (Folded xs)) (done (xs, l))
  one_left [] l q b some few = absurd (omega arith)
  one_left (x ∷ []) l q b some few = run_here q (all_as (all_self (x ∷ []) b) (λ h y s c. ap (λ (t : Bool). t ∷ []) (sym (gate_unit_law g (net_value h s c x)))))
  one_left (x ∷ y ∷ xs) l q b some few = absurd (omega arith)

  some_pairs : (xs : List Bool) → 0 < length xs → 0 < length (pairs (gate_op g) xs)
  some_pairs [] h = h
  some_pairs (x ∷ []) h = h
  some_pairs (x ∷ y ∷ xs) h = omega arith

  levels_run : (f : ℕ) (xs : List ℕ) (l : Netlist) → Sound l → AllBelow (count l) xs → 0 < length xs → length xs ≤ suc f
      → Run l (λ zs l'. StandsAll l' zs (Folded xs)) (levels f g xs l)
  unfolding levels
  levels_run zero xs l q b some few = one_left xs l q b some few
  levels_run (suc f) xs l q b some few = go (ltb 1 (length xs)) refl (λ ys l' q' b' some' few'. levels_run f ys l' q' b' some' few')
    where
      go : (t : Bool) → ltb 1 (length xs) ≡ t
          → ((ys : List ℕ) (l' : Netlist) → Sound l' → AllBelow (count l') ys → 0 < length ys → length ys ≤ suc f → Run l' (λ zs l''. StandsAll l'' zs (Folded ys)) (levels f g ys l'))
          → Run l (λ zs l'. StandsAll l' zs (Folded xs)) (elim t [ true ↦ and_then (level g xs l) (λ (ys, l₁). levels f g ys l₁) | false ↦ done (xs, l) ])
      go false e rec = one_left xs l q b some (ltb-false 1 (length xs) e)
      go true e rec = run_bind (λ (ys, l₁). levels f g ys l₁) (level_run xs l q b) (λ ys l' y v.
          let n : length ys ≡ length (pairs (gate_op g) (map (net_value l' (λ p i. false) nothing) xs)) = all_length v y.sound (λ p i. false) nothing in
          let m = length-map xs (net_value l' (λ p i. false) nothing) in
          run_map (rec ys l' y.sound v.there
          (omega (arith, some_pairs (map (net_value l' (λ p i. false) nothing) xs) (omega arith)))
          (omega (arith, fewer_pairs (gate_op g) (gate_unit g) (gate_unit_law g) (gate_assoc g) f (map (net_value l' (λ p i. false) nothing) xs) (omega arith))))
          (λ zs l'' y' w. all_as w (λ h y'' s c. ap (λ (t : Bool). t ∷ [])
          (ap (foldr (gate_op g) (gate_unit g)) (v.are h (later_trans y' y'') s c) ∙ pairs_fold (gate_op g) (gate_unit g) (gate_unit_law g) (gate_assoc g) (map (net_value h s c) xs)))))

  pub reduce_run : (xs : List ℕ) (l : Netlist) → Sound l → AllBelow (count l) xs → Run l (λ zs l'. StandsAll l' zs (Folded xs)) (reduce_tree g (gate_unit g) xs l)
  unfolding reduce_tree
  reduce_run [] l q b = constants_run (gate_unit g ∷ []) l q
  reduce_run (x ∷ xs) l q b = levels_run (length xs) (x ∷ xs) l q b (omega arith) (omega arith)

-- ---- equality ----

pub equal_run : (a b : ℕ) (l : Netlist) → Sound l → a < count l → b < count l → Run l (Op2 alike a b) (add_equal a b l)
unfolding add_equal
equal_run a b l q ha hb = run_bind _ (xor_run a b l q ha hb) (λ d l' y v.
    run_map (not_run d l' y.sound v.there) (λ z l'' y' w. stands_as w (λ h y'' s c. ap not (v.is h (later_trans y' y'') s c))))

pub equal_words_run : (xs ys : List ℕ) (l : Netlist) → Sound l → AllBelow (count l) xs → AllBelow (count l) ys → length xs ≡ length ys
    → Run l (λ zs l'. StandsAll l' zs (λ h s c. eq_w (map (net_value h s c) xs) (map (net_value h s c) ys) ∷ [])) (equal_words xs ys l)
unfolding equal_words
equal_words_run xs ys l q b d e =
    run_bind _ (both_run add_equal (λ h s c. alike) 0 (λ x y l q k hx hy. equal_run x y l q hx hy) xs ys l q (omega arith) b d) (λ zs l' y v.
    run_map (reduce_run AndGate zs l' y.sound v.there) (λ rs l'' y' w. all_as w (λ h y'' s c. ap (λ (t : Bool). t ∷ [])
    (ap all_r (v.are h (later_trans y' y'') s c) ∙ alike_all (map (net_value h s c) xs) (map (net_value h s c) ys) (length-map xs (net_value h s c) ∙ e ∙ sym (length-map ys (net_value h s c)))))))
