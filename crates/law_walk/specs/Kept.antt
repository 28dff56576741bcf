-- What a lowering keeps of its state, when one state comes after another, and outcomes that keep it. Assumes nothing.
-- A fact about an expression's nets is conditional: it holds for every valuation that gives each resolved signal bit its net's value.
use Rattle.std.specs.Prelude.{◌≡◌, refl, Bool, true, false, List, [], map, ℕ, ◌<◌, length, get_or}
use Rattle.std.proofs.Common.{◌∙◌, arith}
use Rattle.std.proofs.Math.Option.{Option, none, some}
use Rattle.std.proofs.Math.ListN.{get_elem?}
use Rattle.spec_rtl.specs.Rtl.{Module, Valuation, Memory, word}
use Rattle.spec_rules.specs.Step.{Setting, Contents, rounds, data_width}
use Rattle.spec_model.specs.Words.{Netlist}
use Rattle.spec_model.specs.Builder.{Out, refused, done, and_then, Made}
use Rattle.spec_model.specs.Ranges.{width_at}
use Rattle.spec_model.specs.Lowering.{State, cell, whole, signal_width}
use Rattle.word_laws.specs.Widths.{AllBelow}
use Rattle.law_nets.specs.Meaning.{meaning_of, net_value}
use Rattle.law_nets.specs.Sound.{count, Sound, Later, Cells}
use Rattle.law_nets.specs.Run.{below_more, cells_refl, cells_trans, Meets, Built, Run}
use Rattle.law_nets.proofs.Run.{later_refl, later_trans, later_count}
use Rattle.law_walk.specs.Tables.{Has, Shaped, Fits, filled}

abbrev pub Table : Type 0
Table = List (List (Option ℕ))

-- a valuation gives each resolved bit the value of its net
pub record Agrees (g : ℕ → Bool) (v : Valuation) (t : Table) : Type 0 where
  pub at : (p i n : ℕ) → cell none t p i ≡ some n → v p i ≡ g n

-- what is resolved stays so
pub record More (t t' : Table) : Type 0 where
  pub more : (p i n : ℕ) → cell none t p i ≡ some n → cell none t' p i ≡ some n

pub more_refl : {t : Table} → More t t
more_refl = record { more = λ p i n e. e }

pub more_trans : {t t' t'' : Table} → More t t' → More t' t'' → More t t''
more_trans a b = record { more = λ p i n e. b.more p i n (a.more p i n e) }

pub agrees_less : {g : ℕ → Bool} {v : Valuation} {t t' : Table} → More t t' → Agrees g v t' → Agrees g v t
agrees_less m a = record { at = λ p i n e. a.at p i n (m.more p i n e) }

-- nets ns are there, and their word is w of the valuation
pub record NetsGive (l : Netlist) (t : Table) (ns : List ℕ) (w : Valuation → List Bool) : Type 0 where
  pub there : AllBelow (count l) ns
  pub holds : (h : Netlist) → Later l h → (s : Setting) (c : Contents) (v : Valuation) → Agrees (net_value h s c) v t → map (net_value h s c) ns ≡ w v

pub holds_later : {l l' : Netlist} {t t' : Table} {ns : List ℕ} {w : Valuation → List Bool} → Later l l' → More t t' → NetsGive l t ns w → NetsGive l' t' ns w
holds_later {ns} a b x = record {
  there = below_more _ _ ns (later_count a) x.there;
  holds = λ h k s c v g. x.holds h (later_trans a k) s c v (agrees_less b g);
}

-- the known nets of a row have the word's bits
pub record RowGives (l : Netlist) (t : Table) (row : List (Option ℕ)) (w : Valuation → List Bool) : Type 0 where
  pub there : (b n : ℕ) → get_or row b none ≡ some n → n < count l
  pub holds : (h : Netlist) → Later l h → (s : Setting) (c : Contents) (v : Valuation) → Agrees (net_value h s c) v t → Fits (net_value h s c) row (w v)

pub row_later : {l l' : Netlist} {t t' : Table} {row : List (Option ℕ)} {w : Valuation → List Bool} → Later l l' → More t t' → RowGives l t row w → RowGives l' t' row w
row_later {row} a b x = record {
  there = λ i n e. omega (arith, x.there i n e, later_count a);
  holds = λ h k s c v g. x.holds h (later_trans a k) s c v (agrees_less b g);
}

-- the memories' records have the data widths of the module: a memory output's bits are numbered by them
pub record Wide (m : Module) (l : Netlist) : Type 0 where
  pub wide : (k : ℕ) (x : Memory) → get_elem? m.memories k ≡ some x → data_width (meaning_of l) k ≡ signal_width m x.first.read_data

-- an expression's bit that has a net
abbrev pub HeldBy : Option (List ℕ) → Option ℕ → Type 0
HeldBy (some ns) o = Unit {0}
HeldBy none o = Has o

abbrev pub Held : State → ℕ → ℕ → Type 0
Held st e b = HeldBy (whole st e) (cell none st.expression_ranges e b)

-- after as many rounds as bits were resolved, and one, each resolved bit has its net's value
pub record Settles (m : Module) (l : Netlist) (t : Table) : Type 0 where
  pub settles : (h : Netlist) → Later l h → Wide m h → (s : Setting) (c : Contents) (u : Valuation) (n : ℕ) → filled t < n
      → Agrees (net_value h s c) (rounds m s c u n) t

pub record Inv (m : Module) (st : State) : Type 0 where
  pub sound : Sound st.netlist
  pub bits : Shaped (length m.signals) (signal_width m) st.signal_bits
  pub marks : Shaped (length m.signals) (signal_width m) st.resolving
  pub nets : (p i n : ℕ) → cell none st.signal_bits p i ≡ some n → n < count st.netlist
  pub settles : Settles m st.netlist st.signal_bits
  pub entries : length st.expression_bits ≡ length m.exprs
  pub rows : length st.expression_ranges ≡ length m.exprs
  pub wholes : (e : ℕ) (ns : List ℕ) → whole st e ≡ some ns → NetsGive st.netlist st.signal_bits ns (λ v. word m.exprs v e)
  pub cells : (e : ℕ) → e < length m.exprs → whole st e ≡ none → length (get_or st.expression_ranges e []) ≡ width_at m.exprs e
  pub ranges : (e : ℕ) → RowGives st.netlist st.signal_bits (get_or st.expression_ranges e []) (λ v. word m.exprs v e)

-- a marked bit stays marked, and its net as it was
pub record Framed (st st' : State) : Type 0 where
  pub marks : (p i : ℕ) → cell false st.resolving p i ≡ true → cell false st'.resolving p i ≡ true
  pub bits : (p i : ℕ) → cell false st.resolving p i ≡ true → cell none st'.signal_bits p i ≡ cell none st.signal_bits p i

pub record Grew (st st' : State) : Type 0 where
  pub later : Later st.netlist st'.netlist
  pub cells : Cells st.netlist st'.netlist
  pub more : More st.signal_bits st'.signal_bits
  pub framed : Framed st st'
  pub wholes : (e : ℕ) (ns : List ℕ) → whole st e ≡ some ns → whole st' e ≡ some ns
  pub held : (e b : ℕ) → Held st e b → Held st' e b

pub grew_refl : {m : Module} {st : State} → Inv m st → Grew st st
grew_refl i = record {
  later = later_refl i.sound;
  cells = cells_refl;
  more = more_refl;
  framed = record { marks = λ p i e. e; bits = λ p i e. refl };
  wholes = λ e ns h. h;
  held = λ e b h. h;
}

pub grew_trans : {st st' st'' : State} → Grew st st' → Grew st' st'' → Grew st st''
grew_trans a b = record {
  later = later_trans a.later b.later;
  cells = cells_trans a.cells b.cells;
  more = more_trans a.more b.more;
  framed = record {
    marks = λ p i e. b.framed.marks p i (a.framed.marks p i e);
    bits = λ p i e. b.framed.bits p i (a.framed.marks p i e) ∙ a.framed.bits p i e;
  };
  wholes = λ e ns h. b.wholes e ns (a.wholes e ns h);
  held = λ e i h. b.held e i (a.held e i h);
}

-- ---- outcomes: of a refusal nothing is asked ----

abbrev pub Any : ℕ → ℕ → ℕ → Type 0
Any n x y = Unit {0}

pub record WalkedTo (m : Module) (st : State) (P : State → Type 0) (st' : State) : Type 0 where
  pub inv : Inv m st'
  pub grew : Grew st st'
  pub post : P st'

-- a step of the walk from st
pub record Walks (m : Module) (st : State) (P : State → Type 0) (o : Out State) : Type 0 where
  pub walks : Meets Any (WalkedTo m st P) o

pub walks_refused : {m : Module} {st : State} {P : State → Type 0} {n x y : ℕ} → Walks m st P (refused n x y)
walks_refused = record { walks = tt }

pub walks_done : {m : Module} {st st' : State} {P : State → Type 0} → Inv m st' → Grew st st' → P st' → Walks m st P (done st')
walks_done i g p = record { walks = record { inv = i; grew = g; post = p } }

pub walks_map : {m : Module} {st : State} {P Q : State → Type 0} (o : Out State) → Walks m st P o
    → ((st' : State) → Inv m st' → Grew st st' → P st' → Q st') → Walks m st Q o
walks_map (refused n x y) w f = walks_refused
walks_map (done st') w f = let k = w.walks in walks_done k.inv k.grew (f st' k.inv k.grew k.post)

from_later : {m : Module} {st st' : State} {Q : State → Type 0} → Grew st st' → (o : Out State) → Walks m st' Q o → Walks m st Q o
from_later g (refused n x y) w = walks_refused
from_later g (done st'') w = let k = w.walks in walks_done k.inv (grew_trans g k.grew) k.post

pub walks_bind : {m : Module} {st : State} {P Q : State → Type 0} (o : Out State) (k : State → Out State) → Walks m st P o
    → ((st' : State) → Inv m st' → Grew st st' → P st' → Walks m st' Q (k st')) → Walks m st Q (and_then o k)
walks_bind (refused n x y) k w f = walks_refused
walks_bind (done st') k w f = let a = w.walks in from_later a.grew (k st') (f st' a.inv a.grew a.post)

-- a call of the builder at l: of a refusal nothing is asked
pub record Makes {A : Type 0} (l : Netlist) (P : A → Netlist → Type 0) (o : Made A) : Type 0 where
  pub makes : Meets Any (Built l P) o

pub makes_refused : {A : Type 0} {l : Netlist} {P : A → Netlist → Type 0} {n x y : ℕ} → Makes l P (refused n x y)
makes_refused = record { makes = tt }

pub makes_done : {A : Type 0} {l l' : Netlist} {P : A → Netlist → Type 0} {a : A} → Later l l' → Cells l l' → P a l' → Makes l P (done (a, l'))
makes_done b c p = record { makes = record { later = b; cells = c; post = p } }

pub makes_map : {A : Type 0} {l : Netlist} {P Q : A → Netlist → Type 0} (o : Made A) → Makes l P o → ((a : A) (l' : Netlist) → Later l l' → P a l' → Q a l')
    → Makes l Q o
makes_map (refused n x y) w f = makes_refused
makes_map (done r) w f = let k = w.makes in makes_done k.later k.cells (f r.0 r.1 k.later k.post)

from_earlier : {A : Type 0} {l l' : Netlist} {Q : A → Netlist → Type 0} → Later l l' → Cells l l' → (o : Made A) → Makes l' Q o → Makes l Q o
from_earlier b c (refused n x y) w = makes_refused
from_earlier b c (done r) w = let k = w.makes in makes_done (later_trans b k.later) (cells_trans c k.cells) k.post

pub makes_bind : {A B : Type 0} {l : Netlist} {P : A → Netlist → Type 0} {Q : B → Netlist → Type 0} (o : Made A) (k : A × Netlist → Made B) → Makes l P o
    → ((a : A) (l' : Netlist) → Later l l' → P a l' → Makes l' Q (k (a, l'))) → Makes l Q (and_then o k)
makes_bind (refused n x y) k w f = makes_refused
makes_bind (done r) k w f = let a = w.makes in from_earlier a.later a.cells (k r) (f r.0 r.1 a.later a.post)

pub run_makes : {A : Type 0} {l : Netlist} {P : A → Netlist → Type 0} (o : Made A) → Run l P o → Makes l P o
run_makes (refused n x y) r = makes_refused
run_makes (done a) r = record { makes = r.run }
