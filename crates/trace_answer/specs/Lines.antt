-- A line of a trace on the tables of a run, whatever it is: refused, or done and answered. Assumes nothing.
use Rattle.std.specs.Prelude.{ℕ, ◌+◌, ◌≤◌, ◌<◌, ◌≡◌, refl, Bool, true, false, List, [], ◌∷◌, ◌++◌, length, drop}
use Rattle.std.proofs.Common.{arith, sym, ap, subst, ◌∙◌}
use Rattle.spec_tests.specs.Rules.{Refused}
use Rattle.spec_tests.specs.Laws.{and_yes}
use Rattle.spec_rules.specs.Listing.{text}
use Rattle.spec_trace.specs.Opened.{output_nets}
use Rattle.spec_trace.specs.Trace.{setting_of, Now, Before, Goes, Stops, settings_line}
use Rattle.spec_trace.specs.Named as Named
use Rattle.spec_trace.specs.Named.{is_named, History, landed, joined, restored, find, any_line}
use Rattle.law_told.specs.Told.{untrue}
use Rattle.listing_text.specs.Text.{Wrote, refusal_text}
use Rattle.trace_line.specs.State.{Prepared, Sized, Holds}
use Rattle.trace_line.specs.Standing.{Standing}
use Rattle.trace_names.specs.Numbers.{Name, name_told}
use Rattle.trace_keep.specs.Slots.{Roomy, Follows}
use Rattle.trace_keep.specs.Kept.{Keeps, Backs}
use Rattle.trace_answer.specs.Settings.{Unless, Settles}
use Rattle.law_histories.specs.Lines.{keep_line, back_line, settings_line_law, settings_stops, settings_goes, back_goes, back_stops, landed_more, kept_in, back_to}

-- ---- where a run stands ----

module _ (ws steps : List ℕ) (count : ℕ) (inputs outputs registers : List ℕ) (nr : ℕ) (memories : List ℕ) (nm k : ℕ) where
  -- before line k, with the names and moments that are kept
  pub record Underway (values memory names kept : List ℕ) : Type 0 where
    pub prepared : Prepared ws steps count inputs outputs registers nr memories nm
    pub sized : Sized ws values memory
    pub room : Roomy values memory names kept
    pub history : History
    pub follows : Follows ws prepared.ok memories k history values memory names kept

  module _ (l out : List ℕ) (at : ℕ) (values memory names kept : List ℕ) where
    -- it is refused
    pub record Last (out' : List ℕ) (to : ℕ) : Type 0 where
      pub number : ℕ
      pub place : ℕ
      pub small : (number < 4294967296) × (place < 4294967296)
      pub wrote : Wrote out at (refusal_text number k place) out' to
      pub says : (p : Prepared ws steps count inputs outputs registers nr memories nm) (h : History) → Follows ws p.ok memories k h values memory names kept → any_line ws k h l ≡ Stops (Refused number k place)

    -- it is done, and this text is its answer
    pub record Gone (p : Prepared ws steps count inputs outputs registers nr memories nm) (h : History) (values' memory' names' kept' out' : List ℕ) (to : ℕ) : Type 0 where
      pub text : List ℕ
      pub short : length text ≤ length (output_nets ws) + 1
      pub wrote : Wrote out at text out' to
      pub next : History
      pub follows : Follows ws p.ok memories (k + 1) next values' memory' names' kept'
      pub says : any_line ws k h l ≡ Goes text next

    pub record Answers (to : ℕ) (stop : Bool) (out' values' memory' names' kept' : List ℕ) : Type 0 where
      pub place : to ≤ length out'
      pub stops : stop ≡ true → Last out' to
      pub goes : stop ≡ false → (p : Prepared ws steps count inputs outputs registers nr memories nm) (h : History) → Follows ws p.ok memories k h values memory names kept → Gone p h values' memory' names' kept' out' to
      pub sized : stop ≡ false → Sized ws values' memory'

pub standing_of : {ws steps : List ℕ} {count : ℕ} {inputs outputs registers : List ℕ} {nr : ℕ} {memories : List ℕ} {nm k : ℕ} {values memory names kept : List ℕ}
    → Underway ws steps count inputs outputs registers nr memories nm k values memory names kept → Standing ws steps count inputs outputs registers nr memories nm k values memory
standing_of {ws} x = record { prepared = x.prepared; sized = x.sized; stands = landed ws Before x.history.past; holds = x.follows.stands }

-- ---- which line it is ----

its_name : {b : Bool} (word l : List ℕ) → b ≡ is_named word l → b ≡ true → Name (drop 5 l)
unfolding is_named
its_name word l e t = name_told (and_yes (sym e ∙ t)).1

pub given_name : {b : Bool} (word l : List ℕ) → b ≡ is_named word l → b ≡ true → {w : List ℕ} → w ≡ drop 5 l → Name w
given_name word l e t ew = subst Name (sym ew) (its_name word l e t)

-- ---- what it comes to ----

module _ {ws steps : List ℕ} {count : ℕ} {inputs outputs registers : List ℕ} {nr : ℕ} {memories : List ℕ} {nm k : ℕ} {l out : List ℕ} {at : ℕ} {values memory names kept : List ℕ}
    (x : Underway ws steps count inputs outputs registers nr memories nm k values memory names kept) {b : Bool} (e : b ≡ is_named (text "keep ") l) where
  -- a keep
  pub answers_keep : b ≡ true → {w : List ℕ} → w ≡ drop 5 l → {done : Bool} {names' kept' : List ℕ} → Keeps ws memories k w values memory names kept done names' kept' → {to : ℕ} {stop : Bool} {out' : List ℕ} → Unless done k out at out' to stop
      → Answers ws steps count inputs outputs registers nr memories nm k l out at values memory names kept to stop out' values memory names' kept'
  answers_keep t {w} ew {done} {names'} {kept'} a {to} {stop} {out'} u = go done refl
    where
      is : (h : History) → any_line ws k h l ≡ Named.kept k w h
      is h = keep_line ws k h l (sym e ∙ t) ∙ ap (λ (v : List ℕ). Named.kept k v h) (sym ew)

      go : (d : Bool) → done ≡ d → Answers ws steps count inputs outputs registers nr memories nm k l out at values memory names kept to stop out' values memory names' kept'
      go true q = record {
        place = (u.yes q).1.upto;
        stops = λ y. untrue (sym (u.yes q).0 ∙ y);
        goes = λ y p h f. (
            let r = a.done q p.ok h f in
            record { text = []; short = omega arith; wrote = (u.yes q).1; next = kept_in w h; follows = r.1; says = is h ∙ r.0 });
        sized = λ y. x.sized;
      }
      go false q = record {
        place = (u.no q).wrote.upto;
        stops = λ y. record { number = 15; place = 0; small = (omega arith, omega arith); wrote = (u.no q).wrote; says = λ p h f. is h ∙ a.refused q p.ok h f };
        goes = λ y. untrue (sym y ∙ (u.no q).last);
        sized = λ y. untrue (sym y ∙ (u.no q).last);
      }

  module _ (no : b ≡ false) {c : Bool} (f : c ≡ is_named (text "back ") l) where
    -- a back
    pub answers_back : c ≡ true → {w : List ℕ} → w ≡ drop 5 l → {done : Bool} {values' memory' : List ℕ} → Backs ws memories k w values memory names kept done values' memory' → {to : ℕ} {stop : Bool} {out' : List ℕ}
        → length values' ≡ length values → length memory' ≡ length memory → Unless done k out at out' to stop
        → Answers ws steps count inputs outputs registers nr memories nm k l out at values memory names kept to stop out' values' memory' names kept
    answers_back t {w} ew {done} {values'} {memory'} a {to} {stop} {out'} lv lm u = go done refl
      where
        is : (h : History) → any_line ws k h l ≡ restored k h (find w h.held)
        is h = back_line ws k h l (sym e ∙ no) (sym f ∙ t) ∙ ap (λ (v : List ℕ). restored k h (find v h.held)) (sym ew)

        go : (d : Bool) → done ≡ d → Answers ws steps count inputs outputs registers nr memories nm k l out at values memory names kept to stop out' values' memory' names kept
        go true q = record {
          place = (u.yes q).1.upto;
          stops = λ y. untrue (sym (u.yes q).0 ∙ y);
          goes = λ y p h g. (
              let r = a.done q p.ok h g in
              record { text = []; short = omega arith; wrote = (u.yes q).1; next = back_to r.past h; follows = r.follows; says = is h ∙ back_goes ws k h r.is });
          sized = λ y. (
              let r = a.done q x.prepared.ok x.history x.follows in
              let z = x.sized in
              let i = z.wide in
              let j = z.room in
              record { wide = omega arith; bits = r.bits z.bits; room = omega arith });
        }
        go false q = record {
          place = (u.no q).wrote.upto;
          stops = λ y. record { number = 15; place = 0; small = (omega arith, omega arith); wrote = (u.no q).wrote; says = λ p h g. is h ∙ back_stops ws k h (a.refused q p.ok h g) };
          goes = λ y. untrue (sym y ∙ (u.no q).last);
          sized = λ y. untrue (sym y ∙ (u.no q).last);
        }

    -- settings
    pub answers_settings : c ≡ false → {to : ℕ} {stop : Bool} {out' values' memory' : List ℕ} → Settles ws steps count inputs outputs registers nr memories nm k l out at values memory to stop out' values' memory'
        → Answers ws steps count inputs outputs registers nr memories nm k l out at values memory names kept to stop out' values' memory' names kept
    answers_settings t {to} {stop} {out'} {values'} {memory'} s = record {
      place = s.place;
      stops = λ y. (
          let r = s.stops y in
          record { number = r.number; place = r.place; small = r.small; wrote = r.wrote; says = λ p h g. is h ∙ settings_stops ws k h l (r.says p (landed ws Before h.past) g.stands) });
      goes = λ y p h g. (
          let r = s.goes y p (landed ws Before h.past) g.stands in
          record {
            text = r.text;
            short = (let z = r.short in omega arith);
            wrote = r.wrote;
            next = record { past = h.past ++ (setting_of ws l ∷ []); held = h.held };
            follows = record {
              stands = subst (λ (z : Now). Holds ws p.ok memories (k + 1) z values' memory') (sym (landed_more ws Before h.past (setting_of ws l))) r.holds;
              slots = g.slots;
              few = g.few;
            };
            says = is h ∙ settings_goes ws k h l r.says;
          });
      sized = s.sized;
    }
      where
        is : (h : History) → any_line ws k h l ≡ joined h (setting_of ws l) (settings_line ws k (landed ws Before h.past) l)
        is h = settings_line_law ws k h l (sym e ∙ no) (sym f ∙ t)
