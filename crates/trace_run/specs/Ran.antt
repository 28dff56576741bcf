-- What became of some bytes of a trace: the lines that were taken, their text, and what is left. Assumes nothing.
use Rattle.std.specs.Prelude.{ℕ, ◌+◌, ◌-◌, ◌≤◌, ◌<◌, ◌≡◌, refl, Bool, true, false, not, List, [], ◌++◌, length, take, drop}
use Rattle.std.proofs.Common.{arith, sym, ap, subst, ◌∙◌, append_assoc, length-take, length-append, length-drop, take_all, drop-drop}
use Rattle.spec_tests.specs.Rules.{◌<?◌}
use Rattle.spec_tests.specs.Laws.{no_lt}
use Rattle.spec_trace.specs.Named.{History, text_from}
use Rattle.law_told.specs.Told.{untrue}
use Rattle.listing_text.specs.Text.{Wrote, refusal_text}
use Rattle.listing_whole.specs.Whole.{refusal}
use Rattle.listing_whole.specs.Length.{refusal_short}
use Rattle.trace_line.specs.State.{Prepared}
use Rattle.trace_keep.specs.Slots.{Follows}
use Rattle.trace_answer.specs.Lines.{Underway}
use Rattle.trace_lines.specs.Pieces.{Free}
use Rattle.trace_lines.specs.Answers.{Answered}

-- a line of n characters and its end fit in, or a refusal
abbrev pub roomy : List ℕ → ℕ → ℕ → Bool
roomy out at n = not (length out <? at + n + 42)

-- where the text is not the last: the next line must still come, or there is no room
abbrev pub Stopped : List ℕ → ℕ → ℕ → Bool → Bool → Type 0
Stopped out at n wait stop = stop ≡ false → wait ≡ roomy out at n

-- a text for which there is room
pub wrote_room : {o t o' : List ℕ} {at r : ℕ} → Wrote o at t o' r → at + length t ≤ length o → take r o' ≡ take at o ++ t
wrote_room {o} {t} {o'} {at} w h =
    let l = length-append (take at o) t in
    let m = length-take at o in
    w.text ∙ take_all (length o) (take at o ++ t) (omega arith)

pub refusal_few : (n k x : ℕ) → n < 4294967296 → k < 4294967296 → x < 4294967296 → length (refusal_text n k x) ≤ 41
refusal_few n k x l h g = let e = ap length (refusal n k x [] []) in let s = refusal_short n k x [] [] l h g in omega arith

module _ (ws steps : List ℕ) (count : ℕ) (inputs outputs registers : List ℕ) (nr : ℕ) (memories : List ℕ) (nm k : ℕ) (bytes values memory names kept : List ℕ) where
  -- from where the run stands on: the text of the lines taken, and where it then stands; where it stops, that is all
  pub record Told (p : Prepared ws steps count inputs outputs registers nr memories nm) (h : History) (used k' : ℕ) (text : List ℕ) (stop : Bool) (values' memory' names' kept' : List ℕ) : Type 0 where
    pub next : History
    pub stops : stop ≡ true → (more : List ℕ) → text_from ws k h (bytes ++ more) ≡ text
    pub goes : stop ≡ false → (more : List ℕ) → text_from ws k h (bytes ++ more) ≡ text ++ text_from ws k' next (drop used bytes ++ more)
    pub follows : stop ≡ false → Follows ws p.ok memories k' next values' memory' names' kept'

  pub record Ran (used at k' : ℕ) (wait stop : Bool) (out values' memory' names' kept' : List ℕ) : Type 0 where
    pub up_to : used ≤ length bytes
    pub place : at ≤ length out
    pub says : (p : Prepared ws steps count inputs outputs registers nr memories nm) (h : History) → Follows ws p.ok memories k h values memory names kept → Told p h used k' (take at out) stop values' memory' names' kept'
    pub waits : wait ≡ true → Free (drop used bytes) × (length (drop used bytes) ≤ length inputs + 13)
    pub underway : stop ≡ false → Underway ws steps count inputs outputs registers nr memories nm k' values' memory' names' kept'

module _ {ws steps : List ℕ} {count : ℕ} {inputs outputs registers : List ℕ} {nr : ℕ} {memories : List ℕ} {nm k : ℕ} {bytes values memory names kept : List ℕ} where
  -- nothing is taken yet
  pub ran_start : (out : List ℕ) → Underway ws steps count inputs outputs registers nr memories nm k values memory names kept → Ran ws steps count inputs outputs registers nr memories nm k bytes values memory names kept 0 0 k false false out values memory names kept
  ran_start out x = record {
    up_to = omega arith;
    place = omega arith;
    says = λ p h f. record { next = h; stops = λ e. untrue e; goes = λ e more. refl; follows = λ e. f };
    waits = λ e. untrue e;
    underway = λ e. x;
  }

  module _ {used at k₁ : ℕ} {out values₁ memory₁ names₁ kept₁ : List ℕ} (r : Ran ws steps count inputs outputs registers nr memories nm k bytes values memory names kept used at k₁ false false out values₁ memory₁ names₁ kept₁)
      {u to : ℕ} {stop : Bool} {rest out' values₂ memory₂ names₂ kept₂ : List ℕ} (er : rest ≡ drop used bytes)
      (a : Answered ws steps count inputs outputs registers nr memories nm k₁ rest out at values₁ memory₁ names₁ kept₁ u to stop out' values₂ memory₂ names₂ kept₂) (room : at + length outputs + 42 ≤ length out) where
    behind : (more : List ℕ) → rest ++ more ≡ drop used bytes ++ more
    behind more = ap (λ (l : List ℕ). l ++ more) er

    pub ran_stops : stop ≡ true → k₁ < 4294967296 → Ran ws steps count inputs outputs registers nr memories nm k bytes values memory names kept used to k₁ false true out' values₂ memory₂ names₂ kept₂
    ran_stops e small = record {
      up_to = r.up_to;
      place = a.place;
      says = λ p h f. (
          let t = r.says p h f in
          record {
            next = h;
            stops = λ g more. t.goes refl more ∙ ap (λ (l : List ℕ). take at out ++ text_from ws k₁ t.next l) (sym (behind more))
                ∙ ap (λ (l : List ℕ). take at out ++ l) ((a.stops e).says p t.next (t.follows refl) more)
                ∙ sym (wrote_room (a.stops e).wrote (let q = (a.stops e).small in let f = refusal_few (a.stops e).number k₁ (a.stops e).place q.0 small q.1 in omega arith));
            goes = λ g. untrue (sym g);
            follows = λ g. untrue (sym g);
          });
      waits = λ f. untrue f;
      underway = λ f. untrue (sym f);
    }

    pub ran_waits : stop ≡ false → u ≡ 0 → Ran ws steps count inputs outputs registers nr memories nm k bytes values memory names kept used to k₁ true false out' values₂ memory₂ names₂ kept₂
    ran_waits e z =
        let w = a.waits e z in
        record {
          up_to = r.up_to;
          place = a.place;
          says = λ p h f. rw (w.0.0, w.0.1, w.1.1.0.0, w.1.1.0.1, w.1.1.1.0, w.1.1.1.1) (r.says p h f);
          waits = λ f. (subst Free er w.1.0.0, (let l = w.1.0.1 in let n = ap length er in let i = ap length (r.underway refl).prepared.inputs_are in omega arith));
          underway = λ f. rw (w.1.1.0.0, w.1.1.0.1, w.1.1.1.0, w.1.1.1.1) (r.underway f);
        }

    pub stopped_waits : stop ≡ false → u ≡ 0 → {b : Bool} → b ≡ roomy out at (length outputs) → b ≡ true → Stopped out' to (length outputs) true false
    stopped_waits e z q t f = let w = a.waits e z in sym t ∙ q ∙ rw (w.0.0, w.0.1) refl

    pub ran_goes : stop ≡ false → 0 < u → Ran ws steps count inputs outputs registers nr memories nm k bytes values memory names kept (used + u) to (k₁ + 1) false false out' values₂ memory₂ names₂ kept₂
    ran_goes e b = record {
      up_to = (let z = a.up_to in let y = ap length er in let d = length-drop used bytes in let q = r.up_to in omega arith);
      place = a.place;
      says = λ p h f. (
          let t = r.says p h f in
          let g = a.goes e b p t.next (t.follows refl) in
          record {
            next = g.next;
            stops = λ q. untrue q;
            goes = λ q more. t.goes refl more ∙ ap (λ (l : List ℕ). take at out ++ text_from ws k₁ t.next l) (sym (behind more)) ∙ ap (λ (l : List ℕ). take at out ++ l) (g.says more)
                ∙ sym (append_assoc (take at out) g.text (text_from ws (k₁ + 1) g.next (drop u rest ++ more)))
                ∙ ap (λ (l : List ℕ). l ++ text_from ws (k₁ + 1) g.next (drop u rest ++ more)) (sym (wrote_room g.wrote (let s = g.short in let o = ap length p.outputs_are in omega arith)))
                ∙ ap (λ (l : List ℕ). take to out' ++ text_from ws (k₁ + 1) g.next (l ++ more)) (ap (drop u) er ∙ drop-drop u used bytes);
            follows = λ q. g.follows;
          });
      waits = λ f. untrue f;
      underway = λ f. a.underway e b;
    }

-- the bytes that are left
pub rest_is : (bytes : List ℕ) (used : ℕ) → take (length bytes - used) (drop used bytes) ≡ drop used bytes
rest_is bytes used = take_all (length bytes - used) (drop used bytes) (let d = length-drop used bytes in omega arith)

pub room_there : {b : Bool} {x y : ℕ} → b ≡ not (x <? y) → b ≡ true → y ≤ x
room_there {b} {x} {y} e t = no_lt x y (go (x <? y) (sym e ∙ t))
  where
    go : (c : Bool) → not c ≡ true → c ≡ false
    go true e = untrue e
    go false e = refl
