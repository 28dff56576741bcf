-- What became of some bytes of a trace: no line yet, a refusal, or a line that was answered. Assumes nothing.
use Rattle.std.specs.Prelude.{ℕ, zero, suc, ◌+◌, ◌≤◌, ◌<◌, ◌≡◌, refl, Bool, true, false, List, [], ◌∷◌, ◌++◌, length, take, drop, get_or}
use Rattle.std.proofs.Common.{not-suc-le-zero, arith, sym, ap, subst, ◌∙◌, append_assoc, length-take, get_or-take}
use Rattle.std.proofs.Math.Decide.{dec_lt}
use Rattle.spec_tests.specs.Rules.{◌<?◌, ◌and◌}
use Rattle.spec_tests.specs.Laws.{and_yes, yes_lt, no_lt}
use Rattle.spec_trace.specs.Opened.{input_nets, output_nets}
use Rattle.spec_trace.specs.Named.{History, text_from}
use Rattle.law_told.specs.Told.{untrue}
use Rattle.listing_text.specs.Text.{Wrote, refusal_text}
use Rattle.trace_line.specs.State.{Prepared}
use Rattle.trace_keep.specs.Slots.{Roomy, Follows}
use Rattle.trace_answer.specs.Settings.{Refuses, said_is}
use Rattle.trace_answer.specs.Lines.{Underway, Answers}
use Rattle.trace_lines.specs.Pieces.{Free, text_goes, text_stops, text_limit, text_long}

-- the first line end of these bytes
pub record LineEnd (bytes : List ℕ) (r : ℕ) : Type 0 where
  pub up_to : r ≤ length bytes
  pub free : (i : ℕ) → i < r → get_or bytes i 0 ≡ 10 → ⊥
  pub ends : r < length bytes → get_or bytes r 0 ≡ 10
  pub small : r < length bytes → r + 1 < 18446744073709551616

-- n bytes without a line end: refused where they are more than a line has
pub record Waits (k n inputs : ℕ) (out : List ℕ) (at : ℕ) (out' : List ℕ) (used to : ℕ) (stop : Bool) : Type 0 where
  pub none : used ≡ 0
  pub place : to ≤ length out'
  pub long : stop ≡ true → ((inputs < n) × (13 < n)) × Wrote out at (refusal_text 13 k 0) out' to
  pub short : stop ≡ false → (n ≤ inputs + 13) × ((out' ≡ out) × (to ≡ at))

pub waits_long : {k n inputs at used to : ℕ} {out out' : List ℕ} {stop b : Bool} → b ≡ (inputs <? n and 13 <? n) → b ≡ true → (used ≡ 0) × Refuses 13 k 0 out at out' to stop → Waits k n inputs out at out' used to stop
waits_long {n = n} {inputs = inputs} e t r = record {
  none = r.0;
  place = r.1.wrote.upto;
  long = λ y. (let a = and_yes (sym e ∙ t) in ((yes_lt inputs n a.0, yes_lt 13 n a.1), r.1.wrote));
  short = λ y. untrue (sym y ∙ r.1.last);
}

pub waits_short : {k n inputs at : ℕ} {out : List ℕ} {b : Bool} → b ≡ (inputs <? n and 13 <? n) → b ≡ false → at ≤ length out → Waits k n inputs out at out 0 at false
unfolding ◌and◌
waits_short {n = n} {inputs = inputs} e t h = record { none = refl; place = h; long = λ y. untrue y; short = λ y. (few (inputs <? n) refl, (refl, refl)) }
  where
    few : (c : Bool) → (inputs <? n) ≡ c → n ≤ inputs + 13
    few true q = let z = no_lt 13 n (sym (ap (λ (x : Bool). x and 13 <? n) q) ∙ sym e ∙ t) in omega arith
    few false q = let z = no_lt inputs n q in omega arith

-- ---- the first line of some bytes ----

split : (bytes : List ℕ) (e : ℕ) → e < length bytes → get_or bytes e 0 ≡ 10 → bytes ≡ take e bytes ++ (10 ∷ drop (e + 1) bytes)
split [] e h q = absurd (not-suc-le-zero h)
split (b ∷ bs) zero h q = let z : 0 + 1 ≡ 1 = omega arith in ap (λ (x : ℕ). x ∷ bs) q ∙ ap (λ (n : ℕ). 10 ∷ drop n (b ∷ bs)) (sym z)
split (b ∷ bs) (suc e) h q = let z : suc e + 1 ≡ suc (e + 1) = omega arith in ap (λ (x : List ℕ). b ∷ x) (split bs e (omega arith) q) ∙ ap (λ (n : ℕ). b ∷ (take e bs ++ (10 ∷ drop n (b ∷ bs)))) (sym z)

free_line : (bytes : List ℕ) (e : ℕ) → LineEnd bytes e → Free (take e bytes)
free_line bytes e r i h q = let n = length-take e bytes in r.free i (omega arith) (sym (get_or-take e bytes i 0 (omega arith)) ∙ q)

pub free_all : {bytes : List ℕ} {e : ℕ} → LineEnd bytes e → e ≡ length bytes → Free bytes
free_all r e i h q = r.free i (omega arith) q

whole : {bytes : List ℕ} {e : ℕ} → LineEnd bytes e → e < length bytes → (more : List ℕ) → bytes ++ more ≡ take e bytes ++ (10 ∷ (drop (e + 1) bytes ++ more))
whole {bytes} {e} r h more = ap (λ (x : List ℕ). x ++ more) (split bytes e h (r.ends h)) ∙ append_assoc (take e bytes) (10 ∷ drop (e + 1) bytes) more

-- ---- what became of them ----

module _ (ws steps : List ℕ) (count : ℕ) (inputs outputs registers : List ℕ) (nr : ℕ) (memories : List ℕ) (nm k : ℕ) (bytes out : List ℕ) (at : ℕ) (values memory names kept : List ℕ) where
  -- a line was done, and this text is its answer
  pub record Gone (p : Prepared ws steps count inputs outputs registers nr memories nm) (h : History) (used : ℕ) (values' memory' names' kept' out' : List ℕ) (to : ℕ) : Type 0 where
    pub text : List ℕ
    pub short : length text ≤ length (output_nets ws) + 1
    pub wrote : Wrote out at text out' to
    pub next : History
    pub follows : Follows ws p.ok memories (k + 1) next values' memory' names' kept'
    pub says : (more : List ℕ) → text_from ws k h (bytes ++ more) ≡ text ++ text_from ws (k + 1) next (drop used bytes ++ more)

  -- a refusal, and it is the whole text
  pub record Last (out' : List ℕ) (to : ℕ) : Type 0 where
    pub number : ℕ
    pub place : ℕ
    pub small : (number < 4294967296) × (place < 4294967296)
    pub wrote : Wrote out at (refusal_text number k place) out' to
    pub says : (p : Prepared ws steps count inputs outputs registers nr memories nm) (h : History) → Follows ws p.ok memories k h values memory names kept → (more : List ℕ) → text_from ws k h (bytes ++ more) ≡ refusal_text number k place

  pub record Answered (used to : ℕ) (stop : Bool) (out' values' memory' names' kept' : List ℕ) : Type 0 where
    pub up_to : used ≤ length bytes
    pub place : to ≤ length out'
    pub stops : stop ≡ true → Last out' to
    pub waits : stop ≡ false → used ≡ 0 → ((out' ≡ out) × (to ≡ at)) × ((Free bytes × (length bytes ≤ length (input_nets ws) + 13)) × (((values' ≡ values) × (memory' ≡ memory)) × ((names' ≡ names) × (kept' ≡ kept))))
    pub goes : stop ≡ false → 0 < used → (p : Prepared ws steps count inputs outputs registers nr memories nm) (h : History) → Follows ws p.ok memories k h values memory names kept → Gone p h used values' memory' names' kept' out' to
    pub few : stop ≡ false → 0 < used → k < 4294967295
    pub underway : stop ≡ false → 0 < used → Underway ws steps count inputs outputs registers nr memories nm (k + 1) values' memory' names' kept'

module _ {ws steps : List ℕ} {count : ℕ} {inputs outputs registers : List ℕ} {nr : ℕ} {memories : List ℕ} {nm k : ℕ} {bytes out : List ℕ} {at : ℕ} {values memory names kept : List ℕ}
    (x : Underway ws steps count inputs outputs registers nr memories nm k values memory names kept) {e : ℕ} (r : LineEnd bytes e) where
  -- one line too many
  pub limited : e < length bytes → 4294967294 < k → {used to : ℕ} {stop : Bool} {out' : List ℕ} → (used ≡ 0) × Refuses 13 k 0 out at out' to stop
      → Answered ws steps count inputs outputs registers nr memories nm k bytes out at values memory names kept used to stop out' values memory names kept
  limited h l f = record {
    up_to = (let z = f.0 in omega arith);
    place = f.1.wrote.upto;
    stops = λ y. record {
      number = 13;
      place = 0;
      small = (omega arith, omega arith);
      wrote = f.1.wrote;
      says = λ p s g more. ap (text_from ws k s) (whole r h more) ∙ text_limit ws k s (take e bytes) (drop (e + 1) bytes ++ more) (free_line bytes e r) (omega arith) ∙ said_is 13 k 0;
    };
    waits = λ y u. untrue (sym y ∙ f.1.last);
    goes = λ y u. untrue (sym y ∙ f.1.last);
    few = λ y u. untrue (sym y ∙ f.1.last);
    underway = λ y u. untrue (sym y ∙ f.1.last);
  }

  -- no line end
  pub waited : {m n used to : ℕ} {stop : Bool} {out' : List ℕ} → m ≡ length bytes → n ≡ length inputs → e ≡ length bytes → Waits k m n out at out' used to stop
      → Answered ws steps count inputs outputs registers nr memories nm k bytes out at values memory names kept used to stop out' values memory names kept
  waited em en h w = record {
    up_to = (let z = w.none in omega arith);
    place = w.place;
    stops = λ y. (
        let f = w.long y in
        let z = ap length x.prepared.inputs_are in
        record { number = 13; place = 0; small = (omega arith, omega arith); wrote = f.1; says = λ p s g more. text_long ws k s bytes more (free_all r h) (let a = f.0.0 in omega arith) (let a = f.0.1 in omega arith) ∙ said_is 13 k 0 });
    waits = λ y u. (let f = w.short y in let z = ap length x.prepared.inputs_are in ((f.1.0, f.1.1), ((free_all r h, (let a = f.0 in omega arith)), ((refl, refl), (refl, refl)))));
    goes = λ y u. absurd (let z = w.none in omega arith);
    few = λ y u. absurd (let z = w.none in omega arith);
    underway = λ y u. absurd (let z = w.none in omega arith);
  }

  -- a line
  pub answered : {l : List ℕ} → e < length bytes → k ≤ 4294967294 → l ≡ take e bytes → {used to : ℕ} {stop : Bool} {out' values' memory' names' kept' : List ℕ}
      → Answers ws steps count inputs outputs registers nr memories nm k l out at values memory names kept to stop out' values' memory' names' kept' → Roomy values' memory' names' kept' → used ≡ e + 1
      → Answered ws steps count inputs outputs registers nr memories nm k bytes out at values memory names kept used to stop out' values' memory' names' kept'
  answered {l} h few el {used} {to} {stop} {out'} {values'} {memory'} {names'} {kept'} a room eu = record {
    up_to = omega arith;
    place = a.place;
    stops = λ y. (
        let s = a.stops y in
        record {
          number = s.number;
          place = s.place;
          small = s.small;
          wrote = s.wrote;
          says = λ p i g more. ap (text_from ws k i) (line more) ∙ text_stops ws k i l (drop (e + 1) bytes ++ more) free (omega arith) (s.says p i g) ∙ said_is s.number k s.place;
        });
    waits = λ y u. absurd (omega arith);
    goes = λ y u p i g. (
        let s = a.goes y p i g in
        record {
          text = s.text;
          short = s.short;
          wrote = s.wrote;
          next = s.next;
          follows = s.follows;
          says = λ more. ap (text_from ws k i) (line more) ∙ text_goes ws k i l (drop (e + 1) bytes ++ more) free (omega arith) s.says
              ∙ ap (λ (n : ℕ). s.text ++ text_from ws n s.next (drop (e + 1) bytes ++ more)) (let z : suc k ≡ k + 1 = omega arith in z)
              ∙ ap (λ (n : ℕ). s.text ++ text_from ws (k + 1) s.next (drop n bytes ++ more)) (sym eu);
        });
    few = λ y u. omega arith;
    underway = λ y u. (
        let s = a.goes y x.prepared x.history x.follows in
        record { prepared = x.prepared; sized = a.sized y; room = room; history = s.next; follows = s.follows });
  }
    where
      line : (more : List ℕ) → bytes ++ more ≡ l ++ (10 ∷ (drop (e + 1) bytes ++ more))
      line more = whole r h more ∙ ap (λ (z : List ℕ). z ++ (10 ∷ (drop (e + 1) bytes ++ more))) (sym el)

      free : Free l
      free = subst Free (sym el) (free_line bytes e r)

-- ---- searches ----

abbrev pub Passed : List ℕ → ℕ → Type 0
Passed bytes i = (i ≤ length bytes) × ((j : ℕ) → j < i → get_or bytes j 0 ≡ 10 → ⊥)

pub passed_none : (bytes : List ℕ) → Passed bytes 0
passed_none bytes = (omega arith, λ j h. absurd (not-suc-le-zero h))

pub passed_more : (bytes : List ℕ) (i : ℕ) → Passed bytes i → i < length bytes → (get_or bytes i 0 ≡ 10 → ⊥) → Passed bytes (i + 1)
passed_more bytes i p h n = (
  omega arith,
  λ j l. elim (dec_lt j i) [
    | yes b ↦ p.1 j b
    | no b ↦ (λ e. n (ap (λ (k : ℕ). get_or bytes k 0) (let z : i ≡ j = omega arith in z) ∙ e))
  ],
)

pub ends_at : (bytes : List ℕ) (i : ℕ) → Passed bytes i → get_or bytes i 0 ≡ 10 → i + 1 < 18446744073709551616 → LineEnd bytes i
ends_at bytes i p e l = record { up_to = p.0; free = p.1; ends = λ h. e; small = λ h. l }

pub ends_none : (bytes : List ℕ) (i : ℕ) → Passed bytes i → length bytes ≤ i → LineEnd bytes i
ends_none bytes i p h = record { up_to = p.0; free = p.1; ends = λ l. absurd (omega arith); small = λ l. absurd (omega arith) }

pub line_there : {bytes : List ℕ} {e : ℕ} → LineEnd bytes e → (e ≡ length bytes → ⊥) → e < length bytes
line_there {bytes} {e} r n = elim (dec_lt e (length bytes)) [
  | yes h ↦ h
  | no h ↦ absurd (n (let u = r.up_to in omega arith))
]
