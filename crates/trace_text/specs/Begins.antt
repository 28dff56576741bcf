-- A text at the start of a buffer, whole unless the buffer is about full; a refusal and a trace's lines so written. Assumes nothing.
use Rattle.std.specs.Prelude.{ℕ, ◌+◌, ◌-◌, ◌≤◌, ◌<◌, ◌≡◌, refl, Bool, true, false, not, List, [], ◌++◌, length, take, drop, get_or}
use Rattle.std.proofs.Common.{arith, sym, ap, ◌∙◌, append-nil, length-drop, take-append-drop, drop_of_length-le}
use Rattle.spec_tests.specs.Rules.{Refused, pick, ◌≡?◌}
use Rattle.spec_tests.specs.Laws.{lt_no}
use Rattle.spec_trace.specs.Trace.{said}
use Rattle.spec_trace.specs.Named.{begun, text_from}
use Rattle.law_told.specs.Told.{untrue}
use Rattle.listing_text.specs.Text.{Wrote, refusal_text}
use Rattle.trace_answer.specs.Settings.{said_is}
use Rattle.trace_answer.specs.Lines.{Underway}
use Rattle.trace_run.specs.Ran.{Ran, Stopped, wrote_room, room_there, refusal_few}
use Rattle.trace_run.specs.Held.{end_text}
use Rattle.trace_run.specs.Calls as calls
use Rattle.trace_run.specs.Calls.{follows_start, trace_text_law}

-- the first r bytes of the buffer o begin the text t, and are all of it where the buffer has this many more
pub record Begins (spare : ℕ) (t o : List ℕ) (r : ℕ) : Type 0 where
  pub upto : r ≤ length o
  pub rest : List ℕ
  pub is : t ≡ take r o ++ rest
  pub whole : r + spare ≤ length o → rest ≡ []

pub begins_whole : {spare : ℕ} {t o : List ℕ} {r : ℕ} → r ≤ length o → t ≡ take r o → Begins spare t o r
begins_whole {t = t} {o} {r} h e = record { upto = h; rest = []; is = e ∙ sym (append-nil (take r o)); whole = λ l. refl }

pub begins_spare : {few spare : ℕ} {t o : List ℕ} {r : ℕ} → few ≤ spare → Begins few t o r → Begins spare t o r
begins_spare h b = record { upto = b.upto; rest = b.rest; is = b.is; whole = λ l. b.whole (omega arith) }

pub begins_same : {spare : ℕ} {t u o : List ℕ} {r : ℕ} → u ≡ t → Begins spare t o r → Begins spare u o r
begins_same e b = record { upto = b.upto; rest = b.rest; is = e ∙ b.is; whole = b.whole }

-- a text from the start on, cut at the buffer's end
pub begins_wrote : {spare : ℕ} {t o o' : List ℕ} {r : ℕ} → Wrote o 0 t o' r → length t ≤ spare → Begins spare t o' r
begins_wrote {spare} {t} {o} {o'} {r} w h = record {
  upto = w.upto;
  rest = drop (length o) t;
  is = sym (ap (λ (l : List ℕ). l ++ drop (length o) t) w.text ∙ take-append-drop (length o) t);
  whole = λ l. drop_of_length-le t {i = length o} (let z = w.size in omega arith);
}

-- ---- a refusal ----

pub begins_refusal : {spare : ℕ} {o o' : List ℕ} {r : ℕ} (n k : ℕ) → 41 ≤ spare → n < 4294967296 → k < 4294967296 → Wrote o 0 (refusal_text n k 0) o' r → Begins spare (said (Refused n k 0)) o' r
begins_refusal n k s h l w = begins_same (said_is n k 0) (begins_wrote w (let f = refusal_few n k 0 h l (omega arith) in omega arith))

-- ---- the lines ----

end_few : (left k : ℕ) → k < 4294967296 → length (end_text left k) ≤ 41
unfolding end_text pick
end_few left k h = go (left ≡? 0)
  where
    go : (b : Bool) → length (pick b [] (said (Refused 13 k 0))) ≤ 41
    go true = omega arith
    go false = let e = ap length (said_is 13 k 0) in let f = refusal_few 13 k 0 (omega arith) h (omega arith) in omega arith

module _ {ws steps : List ℕ} {count : ℕ} {inputs outputs registers : List ℕ} {nr : ℕ} {memories : List ℕ} {nm : ℕ} {v m n kept : List ℕ} (x : Underway ws steps count inputs outputs registers nr memories nm 0 v m n kept)
    (zv : (j : ℕ) → get_or v j 0 ≡ 0) (zm : (j : ℕ) → get_or m j 0 ≡ 0) (zn : (j : ℕ) → get_or n j 0 ≡ 0) (trace : List ℕ) where
  all_bytes : {t : List ℕ} → calls.Calls ws steps count inputs outputs registers nr memories nm 0 [] v m n kept (trace ++ []) t → text_from ws 0 begun trace ≡ t
  all_bytes c = sym (ap (text_from ws 0 begun) (append-nil trace)) ∙ trace_text_law ws steps count inputs outputs registers nr memories nm x.prepared zv zm zn c

  module _ {used at k : ℕ} {wait stop : Bool} {out v' m' n' kept' : List ℕ} (r : Ran ws steps count inputs outputs registers nr memories nm 0 trace v m n kept used at k wait stop out v' m' n' kept' × Stopped out at (length outputs) wait stop) where
    -- the text was the last
    pub lines_last : stop ≡ true → Begins (length outputs + 42) (text_from ws 0 begun trace) out at
    lines_last e = begins_whole r.0.place (all_bytes (calls.Read trace [] (calls.Last (rw e at r.0))))

    -- no more bytes come
    pub lines_wait : stop ≡ false → wait ≡ true → (left : ℕ) → left ≡ length trace - used → k < 4294967296 → {out' : List ℕ} {to : ℕ} → Wrote out at (end_text left k) out' to
        → Begins (length outputs + 42) (text_from ws 0 begun trace) out' to
    lines_wait e f left q h w =
        let room = room_there (r.1 e) f in
        let d = length-drop used trace in
        let z : length (drop used trace) ≡ left = omega arith in
        begins_whole w.upto (all_bytes (calls.Read trace [] (calls.Then (rw e at r.0) (calls.End (r.0.waits f).0))) ∙ ap (λ (j : ℕ). take at out ++ end_text j k) z
        ∙ sym (wrote_room w (let y = end_few left k h in omega arith)))

    -- there is no room for more
    pub lines_cut : stop ≡ false → wait ≡ false → Begins (length outputs + 42) (text_from ws 0 begun trace) out at
    lines_cut e f =
        let t = r.0.says x.prepared begun (follows_start ws steps count inputs outputs registers nr memories nm x.prepared.ok zv zm zn kept) in
        record {
          upto = r.0.place;
          rest = text_from ws k t.next (drop used trace ++ []);
          is = sym (ap (text_from ws 0 begun) (append-nil trace)) ∙ t.goes e [];
          whole = λ l. untrue (sym f ∙ r.1 e ∙ ap not (lt_no (length out) (at + length outputs + 42) (omega arith)));
        }
