-- Bits that are there. In an accepted module all that is read lies inside its signal. A bit inside that has neither a net nor an assignment
-- has no driver at all, once the sources have their nets. Assumes nothing.
use Rattle.std.specs.Prelude.{◌≡◌, refl, ◌⊎◌, Bool, true, false, cond, List, [], ◌∷◌, ◌++◌, ℕ, zero, suc, ◌+◌, ◌-◌, ◌≤◌, ◌<◌, eqb, length}
use Rattle.std.proofs.Common.{sym, ap, subst, ◌∙◌, inl, inr, not-suc-le-zero, arith}
use Rattle.std.proofs.Math.Option.{Option, none, some}
use Rattle.std.proofs.Math.ListN.{get_elem?}
use Rattle.spec_rtl.specs.Rtl as R
use Rattle.spec_rtl.specs.Rtl.{Module, Kind, Unary, Binary, Driver, by_assign, by_memory, by_register_of, by_dir, of_port, dir_of, driver}
use Rattle.spec_model.specs.Ranges.{expr_at, width_at}
use Rattle.spec_model.specs.Lowering.{State, cell, signal_width, driver_of, expr_driver, mark}
use Rattle.word_laws.specs.Widths.{AllBelow, BelowE, WidthOk}
use Rattle.law_walk.specs.Tables.{none_some, Has}
use Rattle.law_walk.specs.Good.{Good}
use Rattle.spec_needs.specs.Reads.{Place, whole, width_of, of_kind, bit_reads}
use Rattle.law_needs.specs.Covers.{All, all_append, Every, Parts, parts_ok, sums, by_rule, every, pair}
use Rattle.law_needs.specs.Complete.{Further}

abbrev pub Inside : Module → Place → Type 0
Inside m x = x.1 < signal_width m x.0

abbrev pub ControlInside : Module → Option R.Control → Type 0
ControlInside m none = Unit {0}
ControlInside m (some c) = Inside m (c.signal, 0)

abbrev pub ResetInside : Module → Option R.Reset → Type 0
ResetInside m none = Unit {0}
ResetInside m (some r) = Inside m (r.control.signal, 0)

pub record PortInside (m : Module) (p : R.Port) : Type 0 where
  pub clock : Inside m (p.clock, 0)
  pub writes : Inside m (p.write_enable.signal, 0)
  pub reads : ControlInside m p.read_enable

abbrev pub SecondInside : Module → Option R.Port → Type 0
SecondInside m none = Unit {0}
SecondInside m (some p) = PortInside m p

-- what records and expressions read of signals lies inside them
pub record Within (m : Module) : Type 0 where
  pub exprs : (e s lsb : ℕ) → e < length m.exprs → (expr_at m.exprs e).kind ≡ R.Signal s lsb → lsb + width_at m.exprs e ≤ signal_width m s
  pub clocks : (k : ℕ) (r : R.Register) → get_elem? m.registers k ≡ some r → Inside m (r.clock, 0)
  pub enables : (k : ℕ) (r : R.Register) → get_elem? m.registers k ≡ some r → ControlInside m r.enable
  pub resets : (k : ℕ) (r : R.Register) → get_elem? m.registers k ≡ some r → ResetInside m r.reset
  pub firsts : (k : ℕ) (x : R.Memory) → get_elem? m.memories k ≡ some x → PortInside m x.first
  pub seconds : (k : ℕ) (x : R.Memory) → get_elem? m.memories k ≡ some x → SecondInside m x.second

-- ---- all that an expression reads is inside ----

module _ (m : Module) (good : Good m) (within : Within m) where
  abbrev here : Place → Type 0
  here x = Inside m x

  parts_every : (e : ℕ) (ps : List ℕ) → AllBelow e ps → ((j : ℕ) → j < e → Every m.exprs here j) → Parts m.exprs here ps
  parts_every e [] b h = tt
  parts_every e (p ∷ ps) b h = (h p b.0, parts_every e ps b.1 h)

  module _ (e : ℕ) (at : e < length m.exprs) (low : (j : ℕ) → j < e → Every m.exprs here j) where
    abbrev xs : List R.Expr
    xs = m.exprs

    unary_inside : (op : Unary) (a : ℕ) → a < e → WidthOk (width_at xs) (width_at xs e) (R.Un op a) → (i : ℕ) → i < width_at xs e → All here (of_kind (width_of xs) (bit_reads xs) (R.Un op a) i)
    unary_inside R.BitNot a b w i u = low a b i (omega arith)
    unary_inside R.LogicNot a b w i u = every xs here good.exprs a (low a b)
    unary_inside R.ReduceOr a b w i u = every xs here good.exprs a (low a b)
    unary_inside R.ReduceAnd a b w i u = every xs here good.exprs a (low a b)
    unary_inside R.ReduceXor a b w i u = every xs here good.exprs a (low a b)

    two : (a c : ℕ) → a < e → c < e → All here (whole (width_of xs a) (bit_reads xs a) ++ whole (width_of xs c) (bit_reads xs c))
    two a c p q = pair xs here good.exprs a c (low a p) (low c q)

    bits : (a c i : ℕ) → a < e → c < e → i < width_at xs a → i < width_at xs c → All here (bit_reads xs a i ++ bit_reads xs c i)
    bits a c i p q u v = all_append here (bit_reads xs a i) (bit_reads xs c i) (low a p i u) (low c q i v)

    binary_inside : (op : Binary) (a c : ℕ) → a < e → c < e → WidthOk (width_at xs) (width_at xs e) (R.Bin op a c) → (i : ℕ) → i < width_at xs e
        → All here (of_kind (width_of xs) (bit_reads xs) (R.Bin op a c) i)
    binary_inside R.And a c p q w i u = bits a c i p q (omega (arith, w.0)) (omega (arith, w.1))
    binary_inside R.Or a c p q w i u = bits a c i p q (omega (arith, w.0)) (omega (arith, w.1))
    binary_inside R.Xor a c p q w i u = bits a c i p q (omega (arith, w.0)) (omega (arith, w.1))
    binary_inside R.Add a c p q w i u = two a c p q
    binary_inside R.Sub a c p q w i u = two a c p q
    binary_inside R.Mul a c p q w i u = two a c p q
    binary_inside R.Equal a c p q w i u = two a c p q
    binary_inside R.NotEqual a c p q w i u = two a c p q
    binary_inside R.LessU a c p q w i u = two a c p q
    binary_inside R.LessS a c p q w i u = two a c p q
    binary_inside R.LessEqU a c p q w i u = two a c p q
    binary_inside R.LessEqS a c p q w i u = two a c p q
    binary_inside R.GreaterU a c p q w i u = two a c p q
    binary_inside R.GreaterS a c p q w i u = two a c p q
    binary_inside R.GreaterEqU a c p q w i u = two a c p q
    binary_inside R.GreaterEqS a c p q w i u = two a c p q
    binary_inside R.ShiftL a c p q w i u = two a c p q
    binary_inside R.ShiftR a c p q w i u = two a c p q
    binary_inside R.ShiftA a c p q w i u = two a c p q

    kind_inside : (k : Kind) → (expr_at xs e).kind ≡ k → BelowE e k → WidthOk (width_at xs) (width_at xs e) k → (i : ℕ) → i < width_at xs e
        → All here (of_kind (width_of xs) (bit_reads xs) k i)
    kind_inside (R.Signal s lsb) x b w i u = λ y h. one y h
      where
        one : (y : Place) → ◌⊎◌ (y ≡ (s, lsb + i)) ⊥ → here y
        one y (inl q) = subst here (sym q) (omega (arith, within.exprs e s lsb at x))
        one y (inr q) = absurd q
    kind_inside (R.Constant n) x b w i u = λ y h. absurd h
    kind_inside (R.Un op a) x b w i u = unary_inside op a b w i u
    kind_inside (R.Bin op a c) x b w i u = binary_inside op a c b.0 b.1 w i u
    kind_inside (R.Mux c t d) x b w i u =
        all_append here (whole (width_of xs c) (bit_reads xs c)) (bit_reads xs t i ++ bit_reads xs d i) (every xs here good.exprs c (low c b.0))
        (bits t d i b.1 b.2 (omega (arith, w.1)) (omega (arith, w.2)))
    kind_inside (R.Concat ps) x b w i u = parts_ok xs here ps (parts_every e ps b low) i (omega (arith, sums xs here good.exprs ps))
    kind_inside (R.Slice a lsb) x b w i u = low a b (lsb + i) (omega arith)

  inside_below : (n e : ℕ) → e < n → e < length m.exprs → Every m.exprs here e
  inside_below zero e l h = absurd (not-suc-le-zero l)
  inside_below (suc n) e l h = λ i u.
      by_rule m.exprs here good.exprs e h (expr_at m.exprs e).kind refl i
      (kind_inside e h (λ j k. inside_below n j (omega arith) (omega arith)) (expr_at m.exprs e).kind refl (good.exprs.low e h) (good.exprs.wide e h) i u)

  pub insides : (e : ℕ) → e < length m.exprs → Every m.exprs here e
  insides e h = inside_below (suc e) e (omega arith) h

-- ---- sources ----

abbrev pub is_source : Driver → Bool
is_source R.FromInput = true
is_source (R.FromRegister r) = true
is_source (R.FromData k second) = true
is_source (R.FromExpr e o) = false
is_source R.Nothing = false

-- every source has its nets
abbrev pub Sourced : Module → State → Type 0
Sourced m st = (p b : ℕ) → Inside m (p, b) → is_source (driver m p b) ≡ true → Has (cell none st.signal_bits p b)

pub sourced_stays : (m : Module) {st st' : State} → Further st st' → Sourced m st → Sourced m st'
sourced_stays m g z p b h e = g.bits p b (z p b h e)

pub sourced_mark : (m : Module) (st : State) (s b : ℕ) → Sourced m st → Sourced m (mark st s b)
unfolding mark
sourced_mark m st s b z = z

-- bit b of signal p is driven by an expression's bit
pub record Driven (m : Module) (p b : ℕ) : Type 0 where
  pub expression : ℕ
  pub bit : ℕ
  pub is : driver m p b ≡ R.FromExpr expression bit

-- sources aside, a bit's driver is an assignment's
module _ (s b : ℕ) where
  abbrev Same : Driver → Driver → Type 0
  Same d c = is_source c ≡ false → c ≡ d

  by_memory_law : (k : ℕ) (ms : List R.Memory) (d : Driver) → Same d (by_memory k ms s d)
  by_memory_law k [] d h = refl
  by_memory_law k (x ∷ ms) d h = go (eqb x.first.read_data s) (of_port x.second s) (by_memory_law (suc k) ms d) h
    where
      go : (t u : Bool) → Same d (by_memory (suc k) ms s d) → Same d (cond t (R.FromData k false) (cond u (R.FromData k true) (by_memory (suc k) ms s d)))
      go true u r h = let z : ◌≡◌ {A = ℕ} 0 1 = cc in absurd (omega arith)
      go false true r h = let z : ◌≡◌ {A = ℕ} 0 1 = cc in absurd (omega arith)
      go false false r h = r h

  by_register : (k : ℕ) (rs : List R.Register) (d : Driver) → is_source (by_register_of k rs s d) ≡ false → by_register_of k rs s d ≡ d
  by_register k [] d h = refl
  by_register k (r ∷ rs) d h = go (eqb r.target s) (by_register (suc k) rs d) h
    where
      go : (t : Bool) → Same d (by_register_of (suc k) rs s d) → Same d (cond t (R.FromRegister k) (by_register_of (suc k) rs s d))
      go true q h = let z : ◌≡◌ {A = ℕ} 0 1 = cc in absurd (omega arith)
      go false q h = q h

  by_dir_law : (x : R.Dir) (d : Driver) → Same d (by_dir x d)
  by_dir_law R.Internal d h = refl
  by_dir_law R.Input d h = let z : ◌≡◌ {A = ℕ} 0 1 = cc in absurd (omega arith)
  by_dir_law R.Output d h = refl

  pub driver_assigns : (m : Module) → is_source (driver m s b) ≡ false → driver m s b ≡ by_assign m.assigns s b
  driver_assigns m h =
      let c = by_assign m.assigns s b in
      let q = by_memory 0 m.memories s c in
      let r = by_register_of 0 m.registers s q in
      let e : driver m s b ≡ r = by_dir_law (dir_of m s) r h in
      let f : r ≡ q = by_register 0 m.registers q (ap is_source (sym e) ∙ h) in
      let g : q ≡ c = by_memory_law 0 m.memories c (ap is_source (sym (e ∙ f)) ∙ h) in
      e ∙ f ∙ g

pub nothing_drives : (m : Module) (st : State) (s b : ℕ) → Sourced m st → Inside m (s, b) → cell none st.signal_bits s b ≡ none → driver_of m s b ≡ none → driver m s b ≡ R.Nothing
unfolding driver_of
nothing_drives m st s b z h e q = go (is_source (driver m s b)) refl
  where
    none_of : (d : Driver) → is_source d ≡ false → expr_driver d ≡ none → d ≡ R.Nothing
    none_of R.FromInput f r = let z : ◌≡◌ {A = ℕ} 0 1 = cc in absurd (omega arith)
    none_of (R.FromRegister k) f r = let z : ◌≡◌ {A = ℕ} 0 1 = cc in absurd (omega arith)
    none_of (R.FromData k t) f r = let z : ◌≡◌ {A = ℕ} 0 1 = cc in absurd (omega arith)
    none_of (R.FromExpr x o) f r = absurd (none_some (sym r))
    none_of R.Nothing f r = refl

    go : (t : Bool) → is_source (driver m s b) ≡ t → driver m s b ≡ R.Nothing
    go true f = let k = z s b h f in absurd (none_some (sym e ∙ k.is))
    go false f = let k = driver_assigns s b m f in k ∙ none_of (by_assign m.assigns s b) (ap is_source (sym k) ∙ f) q
