-- What is asked before something is lowered, what is there after it, and that the nets read back have the bits meant. Assumes nothing.
use Rattle.std.specs.Prelude.{◌≡◌, ◌⊎◌, Bool, length, take, drop}
use Rattle.std.proofs.Math.Path.{refl}
use Rattle.std.proofs.Common.{◌∙◌, not-suc-le-zero, le_of_suc-le-suc}
use Rattle.std.proofs.Math.Bool.{true, false}
use mathlib.Core.List.{List, [], ◌∷◌, ◌++◌, map}
use Rattle.std.proofs.Math.Option.{none, some}
use Prim.Native.Nat.{ℕ, zero, suc, ◌+◌, ◌-◌, ◌≤◌, ◌<◌}
use Rattle.std.proofs.Math.ListN.{get_or}
use Rattle.spec_rtl.specs.Ops.{slice_w}
use Rattle.spec_rtl.specs.Rtl.{Module, Valuation}
use Rattle.spec_model.specs.Words.{Netlist}
use Rattle.spec_model.specs.Builder.{is_value}
use Rattle.spec_model.specs.Ranges.{width_at}
use Rattle.spec_model.specs.Lowering.{selected, whole_net, State, Need, Bit, Whole, Range, Step, Always, Unless, cell, whole, whole_nets, wholes}
use Rattle.word_laws.specs.Widths.{AllBelow}
use Rattle.law_nets.specs.Meaning.{net_value}
use Rattle.law_nets.specs.Sound.{count}
use Rattle.law_walk.specs.Tables.{Has}
use Rattle.law_walk.specs.Kept.{Table, NetsGive, Held, Grew}

-- a range stays inside its expression
abbrev pub Asked : Module → Need → Type 0
Asked m (Bit s b) = Unit {0}
Asked m (Whole e) = e < length m.exprs
Asked m (Range e lsb w) = (e < length m.exprs) × (lsb + w ≤ width_at m.exprs e)

abbrev pub After : State → Need → Type 0
After st (Bit s b) = Has (cell none st.signal_bits s b)
After st (Whole e) = Has (whole st e)
After st (Range e lsb w) = (b : ℕ) → lsb ≤ b → b < lsb + w → Held st e b

pub after_grew : {st st' : State} → Grew st st' → (n : Need) → After st n → After st' n
after_grew g (Bit s b) h = record { value = h.value; is = g.more.more s b h.value h.is }
after_grew g (Whole e) h = record { value = h.value; is = g.wholes e h.value h.is }
after_grew g (Range e lsb w) h = λ b x y. g.held e b (h b x y)

abbrev pub need_of : Step → Need
need_of (Always n) = n
need_of (Unless c v n) = n

abbrev pub AllAsked : Module → List Step → Type 0
AllAsked m [] = Unit {0}
AllAsked m (s ∷ ss) = Asked m (need_of s) × AllAsked m ss

-- a step is done, or a Mux whose condition is a constant has no use for it
abbrev pub StepAfter : Bool → State → Step → Type 0
StepAfter ob st (Always n) = After st n
StepAfter ob st (Unless c v n) = (is_value v (selected ob st c) ≡ true) ⊎ After st n

abbrev pub AllAfter : Bool → State → List Step → Type 0
AllAfter ob st [] = Unit {0}
AllAfter ob st (s ∷ ss) = StepAfter ob st s × AllAfter ob st ss

-- ---- a condition that is a constant stays one ----

pub net_same : (st st' : State) (c : ℕ) (ns : List ℕ) → whole st c ≡ some ns → whole st' c ≡ some ns → whole_net st c 0 ≡ whole_net st' c 0
unfolding whole_net whole_nets
net_same st st' c ns e f = rw (e, f)

-- ---- lists of nets ----

pub map_append : {A B : Type 0} (g : A → B) (xs ys : List A) → map g (xs ++ ys) ≡ map g xs ++ map g ys
map_append g [] ys = refl
map_append g (x ∷ xs) ys = rw (map_append g xs ys)

pub map_slice : (g : ℕ → Bool) (lsb w : ℕ) (xs : List ℕ) → map g (take w (drop lsb xs)) ≡ take w (drop lsb (map g xs))
map_slice g zero zero xs = refl
map_slice g zero (suc w) [] = refl
map_slice g zero (suc w) (x ∷ xs) = rw (map_slice g zero w xs)
map_slice g (suc lsb) zero xs = refl
map_slice g (suc lsb) (suc w) [] = refl
map_slice g (suc lsb) (suc w) (x ∷ xs) = map_slice g lsb (suc w) xs

pub below_slice : (k lsb w : ℕ) (xs : List ℕ) → AllBelow k xs → AllBelow k (take w (drop lsb xs))
below_slice k zero zero xs h = tt
below_slice k zero (suc w) [] h = tt
below_slice k zero (suc w) (x ∷ xs) h = (h.0, below_slice k zero w xs h.1)
below_slice k (suc lsb) zero xs h = tt
below_slice k (suc lsb) (suc w) [] h = tt
below_slice k (suc lsb) (suc w) (x ∷ xs) h = below_slice k lsb (suc w) xs h.1

pub below_append : (k : ℕ) (xs ys : List ℕ) → AllBelow k xs → AllBelow k ys → AllBelow k (xs ++ ys)
below_append k [] ys h j = j
below_append k (x ∷ xs) ys h j = (h.0, below_append k xs ys h.1 j)

pub below_at : (k : ℕ) (xs : List ℕ) (i d : ℕ) → i < length xs → AllBelow k xs → get_or xs i d < k
below_at k [] i d l h = absurd (not-suc-le-zero l)
below_at k (x ∷ xs) zero d l h = h.0
below_at k (x ∷ xs) (suc i) d l h = below_at k xs i d (le_of_suc-le-suc l) h.1

pub map_at : (g : ℕ → Bool) (xs : List ℕ) (i d : ℕ) (b : Bool) → i < length xs → get_or (map g xs) i b ≡ g (get_or xs i d)
map_at g [] i d b l = absurd (not-suc-le-zero l)
map_at g (x ∷ xs) zero d b l = refl
map_at g (x ∷ xs) (suc i) d b l = map_at g xs i d b (le_of_suc-le-suc l)

module _ {l : Netlist} {t : Table} where
  pub holds_as : {ns : List ℕ} {w w' : Valuation → List Bool} → NetsGive l t ns w → ((v : Valuation) → w v ≡ w' v) → NetsGive l t ns w'
  holds_as h e = record { there = h.there; holds = λ x a s c v g. h.holds x a s c v g ∙ e v }

  pub holds_nil : NetsGive l t [] (λ v. [])
  holds_nil = record { there = tt; holds = λ x a s c v g. refl }

  pub holds_append : {ns ks : List ℕ} {w u : Valuation → List Bool} → NetsGive l t ns w → NetsGive l t ks u → NetsGive l t (ns ++ ks) (λ v. w v ++ u v)
  holds_append {ns} {ks} h k = record {
    there = below_append (count l) ns ks h.there k.there;
    holds = λ x a s c v g. map_append (net_value x s c) ns ks ∙ rw (h.holds x a s c v g, k.holds x a s c v g);
  }

  pub holds_slice : {ns : List ℕ} {w : Valuation → List Bool} (lsb n : ℕ) → NetsGive l t ns w → NetsGive l t (take n (drop lsb ns)) (λ v. slice_w lsb n (w v))
  holds_slice {ns} lsb n h = record {
    there = below_slice (count l) lsb n ns h.there;
    holds = λ x a s c v g. map_slice (net_value x s c) lsb n ns ∙ rw (h.holds x a s c v g);
  }
