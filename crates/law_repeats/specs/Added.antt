-- All stays where a node is added that was not found or is never looked for, and where a record is pushed that is no arithmetic cell or one
-- that is not folded: so where an output port is made or the record of a register's bit or of a memory is pushed. Assumes nothing.
use Rattle.std.specs.Prelude.{◌≡◌, refl, Bool, true, false, List, [], ◌∷◌, ◌++◌, ℕ, ◌+◌, ◌≤◌, get_or}
use Rattle.std.proofs.Common.{sym, ap₂, subst, ◌∙◌, arith, eq-eqb}
use Rattle.std.proofs.Math.Option.{Option, none, some}
use Rattle.std.proofs.Math.ListN.{length}
use Rattle.spec_model.specs.Words.{Node, Netlist, used, arithmetic_key}
use Rattle.spec_model.specs.Builder.{Out, refused, done, and_then, Made, push, same, find, each, both, add_recorded, ArithmeticOp, arithmetic_word, fold_constant_arithmetic}
use Rattle.spec_model.specs.WordCells.{begins}
use Rattle.net_view.specs.Laws.{with_node, with_record}
use Rattle.net_index.specs.Laws.{Same, same_true, find_hit, find_miss}
use Rattle.net_index.specs.CellLaws.{begins_miss, snoc_miss}
use Rattle.law_nets.specs.Run.{grew_trans, Meets, Limit}
use Rattle.law_gates.specs.Nodes.{grew_node}
use Rattle.law_gates.specs.Added.{grew_record, pushed}
use Rattle.law_repeats.specs.Again.{Looked, Stays, stays_refl, stays_trans}

-- ---- a node ----

same_as : (x y z : Node) → Same x y → same x z ≡ same y z
unfolding same
same_as x y z a = rw (a.kinds, a.ins0, a.ins1, a.ins2, a.owners)

-- nodes that are the same are found alike
find_alike : (x y : Node) → Same x y → (ys : List Node) → find x ys ≡ find y ys
unfolding find
find_alike x y a [] = refl
find_alike x y a (z ∷ ys) = ap₂ (λ (t : Bool) (o : Option ℕ). elim t [ true ↦ some (length ys) | false ↦ o ]) (same_as x y z a) (find_alike x y a ys)

same_self : (x : Node) → same x x ≡ true
unfolding same
same_self x = rw (eq-eqb x.kind x.kind refl, eq-eqb x.in0 x.in0 refl, eq-eqb x.in1 x.in1 refl, eq-eqb x.in2 x.in2 refl, eq-eqb x.owner x.owner refl)

-- the newest node
pub find_made : (x : Node) (ys : List Node) → find x (x ∷ ys) ≡ some (length ys)
find_made x ys = find_hit x x ys (same_self x)

-- a node more, which was not there, or is not looked for
find_more : (x y : Node) (ys : List Node) (k : ℕ) → (Looked y → find y ys ≡ none) → Looked x → find x ys ≡ some k → find x (y ∷ ys) ≡ some k
find_more x y ys k new h e = go (same x y) refl
  where
    go : (t : Bool) → same x y ≡ t → find x (y ∷ ys) ≡ some k
    go true q =
        let a = same_true x y q in
        let n : find x ys ≡ none = find_alike x y a ys ∙ new (omega (arith, a.kinds, h.0), omega (arith, a.kinds, h.1)) in
        let z : ◌≡◌ {A = ℕ} 0 1 = cc in absurd (omega arith)
    go false q = find_miss x y ys q ∙ e

pub stays_node : (x : Node) (l : Netlist) → (Looked x → find x l.nodes ≡ none) → Stays l (with_node x l)
stays_node x l new = record { grew = grew_node x l; found = λ y k h e. find_more y x l.nodes k new h e; folds = λ op lhs rhs carry vs w v e. e }

-- ---- a record ----

-- no cell that is folded in l begins the record r
abbrev pub Other : Netlist → List ℕ → Type 0
Other l r =
    (op : ArithmeticOp) (lhs rhs : List ℕ) (carry : Option ℕ) (vs : List Bool) → length rhs ≡ length lhs → fold_constant_arithmetic op lhs rhs carry l ≡ some vs
    → begins (arithmetic_key (arithmetic_word op) lhs rhs carry) r ≡ false

pub stays_record : (r : List ℕ) {l l₁ : Netlist} → Stays l l₁ → Other l r → Stays l (with_record r l₁)
stays_record r {l} {l₁} s other = record {
  grew = grew_trans s.grew (grew_record r l₁);
  found = s.found;
  folds = λ op lhs rhs carry vs w v e.
      snoc_miss (arithmetic_key (arithmetic_word op) lhs rhs carry) l₁.records r (other op lhs rhs carry vs w v) ∙ s.folds op lhs rhs carry vs w v e;
}

begins_other : (key r : List ℕ) → (get_or r 0 0 ≡ 3 → ⊥) → begins (3 ∷ key) r ≡ false
unfolding begins
begins_other key [] h = refl
begins_other key (x ∷ r) h = begins_miss 3 x key r (λ e. h (sym e))

-- a record of no arithmetic cell
pub other_kind : (l : Netlist) (r : List ℕ) → (get_or r 0 0 ≡ 3 → ⊥) → Other l r
other_kind l r h op lhs rhs carry vs w v = begins_other _ r h

-- ---- calls that are done ----

abbrev pub DoneStays : {A : Type 0} → Netlist → Made A → Type 0
DoneStays l (refused n x y) = Unit {0}
DoneStays l (done r) = Stays l r.1

-- where the call is done, all stays
pub record Keeps {A : Type 0} (l : Netlist) (o : Made A) : Type 0 where
  pub keeps : DoneStays l o

pub keeps_done : {A : Type 0} {l l' : Netlist} {a : A} (o : Made A) → Keeps l o → o ≡ done (a, l') → Stays l l'
keeps_done {l} o k e = subst (DoneStays l) e k.keeps

pub keeps_bind : {A B : Type 0} {l : Netlist} (o : Made A) (k : A × Netlist → Made B) → Keeps l o → ((a : A) (l₁ : Netlist) → Keeps l₁ (k (a, l₁))) → Keeps l (and_then o k)
keeps_bind {A} {B} {l} o k h f = record { keeps = go o h.keeps }
  where
    second : (l₁ : Netlist) (p : Made B) → Stays l l₁ → DoneStays l₁ p → DoneStays l p
    second l₁ (refused n x y) s q = tt
    second l₁ (done r) s q = stays_trans s q

    go : (o : Made A) → DoneStays l o → DoneStays l (and_then o k)
    go (refused n x y) q = tt
    go (done r) q = second r.1 (k r) q (f r.0 r.1).keeps

keeps_here : {A : Type 0} (a : A) (l : Netlist) → Keeps l (done (a, l))
keeps_here a l = record { keeps = stays_refl l }

pub keeps_each : {A : Type 0} (f : A → Netlist → Made ℕ) → ((a : A) (l : Netlist) → Keeps l (f a l)) → (xs : List A) (l : Netlist) → Keeps l (each f xs l)
unfolding each
keeps_each f g [] l = keeps_here [] l
keeps_each f g (x ∷ xs) l = keeps_bind (f x l) _ (g x l) (λ n l₁. keeps_bind (each f xs l₁) _ (keeps_each f g xs l₁) (λ ns l₂. keeps_here (n ∷ ns) l₂))

pub keeps_both : (f : ℕ → ℕ → Netlist → Made ℕ) → ((a b : ℕ) (l : Netlist) → Keeps l (f a b l)) → (xs ys : List ℕ) (l : Netlist) → Keeps l (both f xs ys l)
unfolding both
keeps_both f g [] ys l = keeps_here [] l
keeps_both f g (x ∷ xs) [] l = keeps_here [] l
keeps_both f g (x ∷ xs) (y ∷ ys) l = keeps_bind (f x y l) _ (g x y l) (λ n l₁. keeps_bind (both f xs ys l₁) _ (keeps_both f g xs ys l₁) (λ ns l₂. keeps_here (n ∷ ns) l₂))

pub push_other : (r : List ℕ) {l l₁ : Netlist} (l₂ : Netlist) → Stays l l₁ → Other l r → push r l₁ ≡ done l₂ → Stays l l₂
push_other r {l} {l₁} l₂ s h e =
    let p = subst (Meets Limit (λ (k : Netlist). (k ≡ with_record r l₁) × (used l₁.records + length r ≤ l₁.max_list))) e (pushed r l₁) in
    subst (Stays l) (sym p.0) (stays_record r s h)

-- nodes, and a record of r and their nets
pub keeps_recorded : (r : List ℕ) (l : Netlist) (o : Made (List ℕ)) → ((ns : List ℕ) → Other l (r ++ ns)) → Keeps l o → Keeps l (add_recorded r o)
unfolding add_recorded
keeps_recorded r l o h k = record { keeps = go o k.keeps }
  where
    then : (ns : List ℕ) (l₁ : Netlist) → Stays l l₁ → (p : Out Netlist) → push (r ++ ns) l₁ ≡ p → DoneStays l (and_then p (λ l₂. done (ns, l₂)))
    then ns l₁ s (refused n x y) e = tt
    then ns l₁ s (done l₂) e = push_other (r ++ ns) l₂ s (h ns) e

    go : (o : Made (List ℕ)) → DoneStays l o → DoneStays l (and_then o (λ (ns, l₁). and_then (push (r ++ ns) l₁) (λ l₂. done (ns, l₂))))
    go (refused n x y) q = tt
    go (done a) q = then a.0 a.1 q (push (r ++ a.0) a.1) refl
