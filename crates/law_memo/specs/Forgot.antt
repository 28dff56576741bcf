-- A state of which the nets of some expressions are forgotten: what is left of it is kept and steady. Assumes nothing.
use Rattle.std.specs.Prelude.{◌≡◌, refl, Bool, true, List, [], ◌++◌, map, ℕ, ◌+◌, ◌-◌, ◌≤◌, ◌<◌, length, get_or, take, drop, replicate}
use Rattle.std.proofs.Common.{sym, ap, ◌∙◌, arith, length-append, length-drop, length-take, length-take-le, get_or-take, get_or-drop, get_or-append-add}
use Rattle.std.proofs.Math.Option.{Option, none, some}
use Rattle.std.proofs.Math.Decide.{dec_lt}
use Rattle.std.proofs.lemmas.List.{length-map}
use Rattle.std.proofs.Math.ListN.{get_or-append}
use Rattle.spec_rtl.specs.Rtl as R
use Rattle.spec_rtl.specs.Rtl.{Module, Expr, word}
use Rattle.spec_model.specs.Ranges.{expr_at, width_at}
use Rattle.spec_model.specs.Lowering.{State, whole, expression_net, signal_bit}
use Rattle.law_walk.specs.Tables.{none_some, Has}
use Rattle.law_walk.specs.Good.{Good}
use Rattle.law_walk.specs.Kept.{Inv, NetsGive, RowGives}
use Rattle.law_phases.specs.Sources.{none_at, blank, shaped}
use Rattle.law_repeats.specs.Again.{stays_refl}
use Rattle.law_memo.specs.Memo.{forgot}
use Rattle.law_memo.specs.Derived.{only_whole}
use Rattle.law_memo.specs.Later.{derived_later}
use Rattle.law_memo.specs.Reads.{whole_net_law, net_whole, range_net, net_range, nets_there, net_here}
use Rattle.law_memo.specs.Steady.{Steady, DerivedAt}

-- a list of which the end is another's
module _ {A : Type 0} (c : ℕ) (xs ys : List A) (d : A) (long : c ≤ length xs) where
  low : (x : ℕ) → x < c → get_or (take c xs ++ ys) x d ≡ get_or xs x d
  low x h = get_or-append (take c xs) ys d x (omega (arith, length-take-le c xs long)) ∙ get_or-take c xs x d h

  high : (x : ℕ) → c ≤ x → get_or (take c xs ++ ys) x d ≡ get_or ys (x - c) d
  high x h =
      let q : x ≡ length (take c xs) + (x - c) = omega (arith, length-take-le c xs long) in
      ap (λ (j : ℕ). get_or (take c xs ++ ys) j d) q ∙ get_or-append-add (take c xs) ys (x - c) d

module _ (m : Module) (c : ℕ) (most : c ≤ length m.exprs) (st : State) (i : Inv m st) where
  whole_low : (x : ℕ) → x < c → whole (forgot c m st) x ≡ whole st x
  unfolding whole
  whole_low x h = low c st.expression_bits (map (λ y. none) (drop c m.exprs)) none (omega (arith, i.entries)) x h

  whole_high : (x : ℕ) → c ≤ x → whole (forgot c m st) x ≡ none
  unfolding whole
  whole_high x h = high c st.expression_bits (map (λ y. none) (drop c m.exprs)) none (omega (arith, i.entries)) x h ∙ none_at (drop c m.exprs) (x - c)

  row_low : (x : ℕ) → x < c → get_or (forgot c m st).expression_ranges x [] ≡ get_or st.expression_ranges x []
  row_low x h = low c st.expression_ranges (map (λ (y : Expr). replicate y.width none) (drop c m.exprs)) [] (omega (arith, i.rows)) x h

  row_high : (x : ℕ) → c ≤ x → get_or (forgot c m st).expression_ranges x [] ≡ get_or (map (λ (y : Expr). replicate y.width none) (drop c m.exprs)) (x - c) []
  row_high x h = high c st.expression_ranges (map (λ (y : Expr). replicate y.width none) (drop c m.exprs)) [] (omega (arith, i.rows)) x h

  no_cell : (x b : ℕ) → c ≤ x → get_or (get_or (forgot c m st).expression_ranges x []) b none ≡ none
  no_cell x b h = ap (λ (r : List (Option ℕ)). get_or r b none) (row_high x h) ∙ blank (λ (y : Expr). y.width) (drop c m.exprs) (x - c) b

  -- ---- nets ----

  net_low : (x b n : ℕ) → x < c → expression_net st x b ≡ some n → expression_net (forgot c m st) x b ≡ some n
  net_low x b n h q = go (whole st x) refl
    where
      go : (o : Option (List ℕ)) → whole st x ≡ o → expression_net (forgot c m st) x b ≡ some n
      go (some ns) z = whole_net_law (forgot c m st) x ns (whole_low x h ∙ z) b n (net_whole st x ns z b n q)
      go none z = range_net (forgot c m st) x (whole_low x h ∙ z) b n (ap (λ (r : List (Option ℕ)). get_or r b none) (row_low x h) ∙ net_range st x z b n q)

  net_kept : (x b n : ℕ) → x < c → expression_net (forgot c m st) x b ≡ some n → expression_net st x b ≡ some n
  net_kept x b n h q = go (whole st x) refl
    where
      go : (o : Option (List ℕ)) → whole st x ≡ o → expression_net st x b ≡ some n
      go (some ns) z = whole_net_law st x ns z b n (net_whole (forgot c m st) x ns (whole_low x h ∙ z) b n q)
      go none z = range_net st x z b n (ap (λ (r : List (Option ℕ)). get_or r b none) (sym (row_low x h)) ∙ net_range (forgot c m st) x (whole_low x h ∙ z) b n q)

  net_below : (x b n : ℕ) → expression_net (forgot c m st) x b ≡ some n → x < c
  net_below x b n q = elim (dec_lt x c) [
    | yes h ↦ h
    | no h ↦ (let g : c ≤ x = omega arith in absurd (none_some (sym (no_cell x b g) ∙ net_range (forgot c m st) x (whole_high x g) b n q)))
  ]

  pub forgot_nets : (x b n : ℕ) → expression_net (forgot c m st) x b ≡ some n → expression_net st x b ≡ some n
  forgot_nets x b n q = net_kept x b n (net_below x b n q) q

  -- ---- what the lowering keeps ----

  pub forgot_inv : Inv m (forgot c m st)
  forgot_inv = record {
    sound = i.sound;
    bits = i.bits;
    marks = i.marks;
    nets = i.nets;
    settles = i.settles;
    entries = count st.expression_bits (map (λ y. none) (drop c m.exprs)) i.entries (length-map (drop c m.exprs) (λ y. none));
    rows = count st.expression_ranges (map (λ (y : Expr). replicate y.width none) (drop c m.exprs)) i.rows
        (length-map (drop c m.exprs) (λ (y : Expr). replicate y.width none));
    wholes = λ e ns q. wholes e ns q (dec_lt e c);
    cells = λ e h q. cells e h q (dec_lt e c);
    ranges = λ e. ranges e (dec_lt e c);
  }
    where
      count : {A : Type 0} (xs ys : List A) → length xs ≡ length m.exprs → length ys ≡ length (drop c m.exprs) → length (take c xs ++ ys) ≡ length m.exprs
      count xs ys p q = length-append (take c xs) ys ∙ omega (arith, length-take c xs, p, q, length-drop c m.exprs)

      wholes : (e : ℕ) (ns : List ℕ) → whole (forgot c m st) e ≡ some ns → Dec (e < c) → NetsGive st.netlist st.signal_bits ns (λ v. word m.exprs v e)
      wholes e ns q (yes h) = i.wholes e ns (sym (whole_low e h) ∙ q)
      wholes e ns q (no h) = let g : c ≤ e = omega arith in absurd (none_some (sym (whole_high e g) ∙ q))

      cells : (e : ℕ) → e < length m.exprs → whole (forgot c m st) e ≡ none → Dec (e < c) → length (get_or (forgot c m st).expression_ranges e []) ≡ width_at m.exprs e
      cells e b q (yes h) = ap length (row_low e h) ∙ i.cells e b (sym (whole_low e h) ∙ q)
      cells e b q (no h) =
          let g : c ≤ e = omega arith in
          let z : c + (e - c) ≡ e = omega arith in
          ap length (row_high e g)
          ∙ (shaped none (λ (x : Expr). x.width) (drop c m.exprs) (record { width = 0; kind = R.Constant 0 }) (width_at (drop c m.exprs)) (λ j. refl)).cells (e - c) (omega (arith, length-drop c m.exprs))
          ∙ ap (λ (x : Expr). x.width) (get_or-drop c m.exprs (e - c) (record { width = 0; kind = R.Constant 0 })) ∙ ap (width_at m.exprs) z

      ranges : (e : ℕ) → Dec (e < c) → RowGives st.netlist st.signal_bits (get_or (forgot c m st).expression_ranges e []) (λ v. word m.exprs v e)
      ranges e (yes h) = rw (row_low e h) (i.ranges e)
      ranges e (no h) =
          let g : c ≤ e = omega arith in
          record {
            there = λ b n q. absurd (none_some (sym (no_cell e b g) ∙ q));
            holds = λ l a s d v k. record { fits = λ b n q. absurd (none_some (sym (no_cell e b g) ∙ q)) };
          }

  -- ---- and that it is steady ----

  pub forgot_steady : (good : Good m) (ob : Bool) → Steady m good.exprs ob st → Steady m good.exprs ob (forgot c m st)
  unfolding signal_bit
  forgot_steady good ob s = record { derived = derived; only = only }
    where
      derived : (x b n : ℕ) → expression_net (forgot c m st) x b ≡ some n → DerivedAt m good.exprs ob st.netlist (forgot c m st) x b n
      derived x b n q =
          let h = net_below x b n q in
          let p = net_kept x b n h q in
          derived_later m good.exprs ob st.netlist i.sound (signal_bit st) (expression_net st) (nets_there m st i) st.netlist (stays_refl st.netlist) (signal_bit st)
          (expression_net (forgot c m st)) (λ a j k y. y) x (net_here m st i x b n p) (λ a j k l y. net_low a j k (omega arith) y) b n (s.derived x b n p)

      only : (x b n : ℕ) → only_whole (expr_at m.exprs x).kind ≡ true → expression_net (forgot c m st) x b ≡ some n → Has (whole (forgot c m st) x)
      only x b n k q =
          let h = net_below x b n q in
          let w = s.only x b n k (net_kept x b n h q) in
          record { value = w.value; is = whole_low x h ∙ w.is }
