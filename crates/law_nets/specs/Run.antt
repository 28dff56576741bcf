-- A program logic for the builder's calls: an outcome is a refusal for want of room, or an answer in a later netlist. Assumes nothing.
use Rattle.std.specs.Prelude.{refl, List, [], ◌∷◌, ◌++◌, ℕ, ◌+◌, ◌≤◌}
use Rattle.std.proofs.Common.{sym, ◌∙◌, append_assoc, append-nil, le_trans}
use Rattle.spec_model.specs.Words.{Netlist}
use Rattle.spec_model.specs.Builder.{Out, refused, done, and_then, Made}
use Rattle.word_laws.specs.Widths.{AllBelow}
use Rattle.law_nets.specs.Sound.{Grew, Later, Cells}

-- ---- later ----

pub grew_refl : (l : Netlist) → Grew l l
grew_refl l = record { nets = refl; list = refl; added = []; nodes = refl; pushed = []; records = sym (append-nil l.records) }

pub grew_trans : {l l' l'' : Netlist} → Grew l l' → Grew l' l'' → Grew l l''
grew_trans {l} g h = record {
  nets = h.nets ∙ g.nets;
  list = h.list ∙ g.list;
  added = h.added ++ g.added;
  nodes = h.nodes ∙ rw g.nodes (sym (append_assoc h.added g.added l.nodes));
  pushed = g.pushed ++ h.pushed;
  records = h.records ∙ rw g.records (append_assoc l.records g.pushed h.pushed);
}

pub below_more : (n k : ℕ) (xs : List ℕ) → n ≤ k → AllBelow n xs → AllBelow k xs
below_more n k [] h b = tt
below_more n k (x ∷ xs) h b = (le_trans b.0 h, below_more n k xs h b.1)

-- ---- outcomes ----

-- a refusal is one of R, an answer is one of P
abbrev pub Meets : {A : Type 0} → (ℕ → ℕ → ℕ → Type 0) → (A → Type 0) → Out A → Type 0
Meets R P (refused n x y) = R n x y
Meets R P (done a) = P a

pub meets_bind : {A B : Type 0} (R : ℕ → ℕ → ℕ → Type 0) (P : A → Type 0) (Q : B → Type 0) (o : Out A) (k : A → Out B) → Meets R P o
    → ((a : A) → P a → Meets R Q (k a)) → Meets R Q (and_then o k)
meets_bind R P Q (refused n x y) k m f = m
meets_bind R P Q (done a) k m f = f a m

pub meets_map : {A : Type 0} (R S : ℕ → ℕ → ℕ → Type 0) (P Q : A → Type 0) (o : Out A) → Meets R P o
    → ((n x y : ℕ) → R n x y → S n x y) → ((a : A) → P a → Q a) → Meets S Q o
meets_map R S P Q (refused n x y) m r f = r n x y m
meets_map R S P Q (done a) m r f = f a m

-- no more nets, no more list words
pub data Limit : ℕ → ℕ → ℕ → Type 0 where
  nets : Limit 9 0 0
  list : Limit 10 0 0

pub cells_refl : {l : Netlist} → Cells l l
cells_refl = record { cells = λ t h. refl }

pub cells_trans : {l l' l'' : Netlist} → Cells l l' → Cells l' l'' → Cells l l''
cells_trans a b = record { cells = λ t h. b.cells t h ∙ a.cells t h }

-- an answer with P in a later netlist, whose new records are cells
pub record Built {A : Type 0} (l : Netlist) (P : A → Netlist → Type 0) (r : A × Netlist) : Type 0 where
  pub later : Later l r.1
  pub cells : Cells l r.1
  pub post : P r.0 r.1

-- a call at l: refused for want of room, or such an answer
pub record Run {A : Type 0} (l : Netlist) (P : A → Netlist → Type 0) (o : Made A) : Type 0 where
  pub run : Meets Limit (Built l P) o
