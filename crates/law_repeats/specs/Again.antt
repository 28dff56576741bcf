-- A call of the builder that is made again, after whatever calls since, makes nothing and gives what it gave: what must stay for it,
-- and how such calls join. Assumes nothing.
use Rattle.std.proofs.Math.Path.{◌≡◌, refl, ap₂}
use Rattle.std.proofs.Common.{sym, ap, subst, ◌∙◌, arith}
use Rattle.std.specs.Prelude.{Bool, true, false, cond, ℕ, ◌<◌, length}
use mathlib.Core.List.{List, [], ◌∷◌, ◌++◌}
use Rattle.std.proofs.Math.Option.{Option, none, some}
use Rattle.spec_model.specs.Words.{Node, Netlist, arithmetic_key}
use Rattle.spec_model.specs.Builder.{refused, done, and_then, Made, node_for_net, constant_value, find, ArithmeticOp, arithmetic_word, also_value, constant_values, carry_value, fold_by, fold_constant_arithmetic}
use Rattle.spec_model.specs.WordCells.{begins, find_cell}
use Rattle.net_index.specs.CellLaws.{find_cell_hit, find_cell_miss}
use Rattle.word_laws.specs.Widths.{AllBelow}
use Rattle.law_nets.specs.Sound.{count, Grew, Later}
use Rattle.law_nets.specs.Nodes.{node_grew, count_grew, constant_there, constant_grew}
use Rattle.law_nets.specs.Run.{grew_refl, grew_trans, below_more, Meets, Limit, Built, Run}

-- ---- what stays ----

-- a gate or a constant: a node that is looked for
abbrev pub Looked : Node → Type 0
Looked x = (0 < x.kind) × (x.kind < 7)

-- l'' has grown from l; a node that was found is found still; an arithmetic cell that is folded, since its operands are constants, and so
-- is not kept, is not found later either
pub record Stays (l l'' : Netlist) : Type 0 where
  pub grew : Grew l l''
  pub found : (x : Node) (k : ℕ) → Looked x → find x l.nodes ≡ some k → find x l''.nodes ≡ some k
  pub folds : (op : ArithmeticOp) (lhs rhs : List ℕ) (carry : Option ℕ) (vs : List Bool) → length rhs ≡ length lhs → fold_constant_arithmetic op lhs rhs carry l ≡ some vs
      → find_cell (arithmetic_key (arithmetic_word op) lhs rhs carry) l.records ≡ none → find_cell (arithmetic_key (arithmetic_word op) lhs rhs carry) l''.records ≡ none

-- ---- constants stay constants ----

module _ {l l'' : Netlist} (g : Grew l l'') where
  value_grew : (n : ℕ) (v : Bool) → constant_value l n ≡ some v → constant_value l'' n ≡ some v
  value_grew n v e = constant_grew g n (constant_there l n v e) ∙ e

  values_grew : (ns : List ℕ) (vs : List Bool) → constant_values l ns ≡ some vs → constant_values l'' ns ≡ some vs
  unfolding constant_values
  values_grew [] vs e = e
  values_grew (n ∷ ns) vs e = go (constant_value l n) refl (constant_values l ns) refl e (values_grew ns)
    where
      go : (o : Option Bool) → constant_value l n ≡ o → (p : Option (List Bool)) → constant_values l ns ≡ p → also_value o p ≡ some vs
          → ((us : List Bool) → constant_values l ns ≡ some us → constant_values l'' ns ≡ some us) → also_value (constant_value l'' n) (constant_values l'' ns) ≡ some vs
      go none eo p ep e ih = let z : ◌≡◌ {A = ℕ} 0 1 = cc in absurd (omega arith)
      go (some v) eo none ep e ih = let z : ◌≡◌ {A = ℕ} 0 1 = cc in absurd (omega arith)
      go (some v) eo (some us) ep e ih = ap₂ also_value (value_grew n v eo) (ih us ep) ∙ e

  carry_grew : (c : Option ℕ) (v : Bool) → carry_value l c ≡ some v → carry_value l'' c ≡ some v
  carry_grew none v e = e
  carry_grew (some n) v e = value_grew n v e

  pub fold_grew : (op : ArithmeticOp) (lhs rhs : List ℕ) (carry : Option ℕ) (vs : List Bool) → fold_constant_arithmetic op lhs rhs carry l ≡ some vs
      → fold_constant_arithmetic op lhs rhs carry l'' ≡ some vs
  unfolding fold_constant_arithmetic
  fold_grew op lhs rhs carry vs e = go (carry_value l carry) refl (constant_values l lhs) refl (constant_values l rhs) refl e
    where
      go : (o : Option Bool) → carry_value l carry ≡ o → (a : Option (List Bool)) → constant_values l lhs ≡ a → (b : Option (List Bool)) → constant_values l rhs ≡ b
          → fold_by op o a b ≡ some vs → fold_by op (carry_value l'' carry) (constant_values l'' lhs) (constant_values l'' rhs) ≡ some vs
      go none eo a ea b eb e = let z : ◌≡◌ {A = ℕ} 0 1 = cc in absurd (omega arith)
      go (some v) eo none ea b eb e = let z : ◌≡◌ {A = ℕ} 0 1 = cc in absurd (omega arith)
      go (some v) eo (some x) ea none eb e = let z : ◌≡◌ {A = ℕ} 0 1 = cc in absurd (omega arith)
      go (some v) eo (some x) ea (some y) eb e = rw (carry_grew carry v eo, values_grew lhs x ea, values_grew rhs y eb) e

-- ---- a cell that was found is found ----

found_more : (key ns : List ℕ) (rs more : List (List ℕ)) → find_cell key rs ≡ some ns → find_cell key (rs ++ more) ≡ some ns
unfolding find_cell
found_more key ns [] more e = let z : ◌≡◌ {A = ℕ} 0 1 = cc in absurd (omega arith)
found_more key ns (r ∷ rs) more e = go (begins key r) refl (found_more key ns rs more)
  where
    go : (t : Bool) → begins key r ≡ t → (find_cell key rs ≡ some ns → find_cell key (rs ++ more) ≡ some ns) → find_cell key (r ∷ (rs ++ more)) ≡ some ns
    go true q ih = find_cell_hit key r (rs ++ more) q ∙ sym (find_cell_hit key r rs q) ∙ e
    go false q ih = find_cell_miss key r (rs ++ more) q ∙ ih (sym (find_cell_miss key r rs q) ∙ e)

pub cell_grew : {l l'' : Netlist} → Grew l l'' → (key ns : List ℕ) → find_cell key l.records ≡ some ns → find_cell key l''.records ≡ some ns
cell_grew {l} g key ns e = ap (find_cell key) g.records ∙ found_more key ns l.records g.pushed e

-- ---- staying, in a row ----

pub stays_refl : (l : Netlist) → Stays l l
stays_refl l = record { grew = grew_refl l; found = λ x k h e. e; folds = λ op lhs rhs carry vs w v e. e }

pub stays_trans : {l l' l'' : Netlist} → Stays l l' → Stays l' l'' → Stays l l''
stays_trans a b = record {
  grew = grew_trans a.grew b.grew;
  found = λ x k h e. b.found x k h (a.found x k h e);
  folds = λ op lhs rhs carry vs w v e. b.folds op lhs rhs carry vs w (fold_grew a.grew op lhs rhs carry vs v) (a.folds op lhs rhs carry vs w v e);
}

pub below_stays : {l l' : Netlist} → Stays l l' → (xs : List ℕ) → AllBelow (count l) xs → AllBelow (count l') xs
below_stays s xs h = below_more _ _ xs (count_grew s.grew) h

pub value_stays : {l l'' : Netlist} → Stays l l'' → (a : ℕ) → a < count l → constant_value l'' a ≡ constant_value l a
value_stays s a h = constant_grew s.grew a h

-- ---- calls ----

abbrev pub Repeats : {A : Type 0} → (Netlist → Made A) → Netlist → Made A → Type 0
Repeats f l (refused n x y) = Unit {0}
Repeats f l (done r) = Stays l r.1 × ((l'' : Netlist) → Stays r.1 l'' → f l'' ≡ done (r.0, l''))

-- the call f at l, once it is done, gives what it gave, and makes nothing, at every netlist that came of it by builder calls (`Stays`)
pub record Again {A : Type 0} (f : Netlist → Made A) (l : Netlist) : Type 0 where
  pub again : Repeats f l (f l)

module _ {A : Type 0} {f : Netlist → Made A} {l l₁ : Netlist} {a : A} (r : Again f l) (e : f l ≡ done (a, l₁)) where
  -- the call gives this ever after
  pub repeats : (l'' : Netlist) → Stays l₁ l'' → f l'' ≡ done (a, l'')
  repeats = (subst (Repeats f l) e r.again).1

pub again_here : {A : Type 0} (a : A) (l : Netlist) → Again (λ l'. done (a, l')) l
again_here a l = record { again = (stays_refl l, λ l'' h. refl) }

-- the same call in other words, here and later
pub again_as : {A : Type 0} {f g : Netlist → Made A} {l : Netlist} → Again g l → f l ≡ g l → ((l' : Netlist) → Stays l l' → f l' ≡ g l') → Again f l
again_as {f} {g} {l} a e h = record { again = go (g l) refl a.again }
  where
    go : (o : Made _) → g l ≡ o → Repeats g l o → Repeats f l (f l)
    go (refused n x y) q r = rw (e ∙ q) tt
    go (done r) q z = rw (e ∙ q) (z.0, λ l'' s. h l'' (stays_trans z.0 s) ∙ z.1 l'' s)

pub again_bind : {A B : Type 0} (f : Netlist → Made A) (k : A → Netlist → Made B) (l : Netlist) → Again f l
    → ((a : A) (l₁ : Netlist) → f l ≡ done (a, l₁) → Stays l l₁ → Again (k a) l₁) → Again (λ l'. and_then (f l') (λ (a, l₁). k a l₁)) l
again_bind {A} {B} f k l a h = record { again = go (f l) refl a.again }
  where
    second : (a : A) (l₁ : Netlist) → Stays l l₁ → ((l'' : Netlist) → Stays l₁ l'' → f l'' ≡ done (a, l'')) → (o : Made B) → k a l₁ ≡ o → Repeats (k a) l₁ o
        → Repeats (λ l'. and_then (f l') (λ (a, l₁). k a l₁)) l o
    second a l₁ s g (refused n x y) q r = tt
    second a l₁ s g (done r) q z =
        (stays_trans s z.0, λ l'' t. ap (λ (o : Made A). and_then o (λ (a, l₁). k a l₁)) (g l'' (stays_trans z.0 t)) ∙ z.1 l'' t)

    go : (o : Made A) → f l ≡ o → Repeats f l o → Repeats (λ l'. and_then (f l') (λ (a, l₁). k a l₁)) l (and_then o (λ (a, l₁). k a l₁))
    go (refused n x y) q r = tt
    go (done r) q z = second r.0 r.1 z.0 z.1 (k r.0 r.1) refl (h r.0 r.1 q z.0).again

-- what a run says of its answer
pub ran : {A : Type 0} {l l₁ : Netlist} {P : A → Netlist → Type 0} {a : A} (o : Made A) → Run l P o → o ≡ done (a, l₁) → Built l P (a, l₁)
ran {l} {P} o r e = subst (Meets Limit (Built l P)) e r.run

-- a call whose answer is known by a run, and then another
pub again_then : {A B : Type 0} {P : A → Netlist → Type 0} (f : Netlist → Made A) (k : A → Netlist → Made B) (l : Netlist) → Again f l → Run l P (f l)
    → ((a : A) (l₁ : Netlist) → Stays l l₁ → Later l l₁ → P a l₁ → Again (k a) l₁) → Again (λ l'. and_then (f l') (λ (a, l₁). k a l₁)) l
again_then f k l a r h = again_bind f k l a (λ x l₁ e s. let b = ran (f l) r e in h x l₁ s b.later b.post)

-- ---- a choice that stays ----

-- by a test
pub again_if : {A : Type 0} (t : Netlist → Bool) (f g : Netlist → Made A) (l : Netlist) → ((l'' : Netlist) → Stays l l'' → t l'' ≡ t l) → (t l ≡ true → Again f l) → (t l ≡ false → Again g l)
    → Again (λ l'. cond (t l') (f l') (g l')) l
again_if t f g l k a b = go (t l) refl a b
  where
    go : (z : Bool) → t l ≡ z → (z ≡ true → Again f l) → (z ≡ false → Again g l) → Again (λ l'. cond (t l') (f l') (g l')) l
    go true e a b = again_as (a refl) (rw e) (λ l' s. rw (k l' s ∙ e))
    go false e a b = again_as (b refl) (rw e) (λ l' s. rw (k l' s ∙ e))

-- by what an operand is
pub again_value : {A : Type 0} (f : Option Bool → Netlist → Made A) (a : ℕ) (l : Netlist) → a < count l → ((o : Option Bool) → Again (f o) l) → Again (λ l'. f (constant_value l' a) l') l
again_value f a l h k = again_as (k (constant_value l a)) refl (λ l' s. ap (λ (o : Option Bool). f o l') (value_stays s a h))

pub again_node : {A : Type 0} (f : Node → Netlist → Made A) (a : ℕ) (l : Netlist) → a < count l → Again (f (node_for_net l a)) l → Again (λ l'. f (node_for_net l' a) l') l
again_node f a l h k = again_as k refl (λ l' s. ap (λ (o : Node). f o l') (node_grew s.grew a h))
