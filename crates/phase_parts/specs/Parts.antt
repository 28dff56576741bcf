-- Controls of an image: when they are there, and the words that they become. Assumes nothing.
use Rattle.std.specs.Prelude as code
use Rattle.std.specs.Prelude.{◌≡◌, refl, Bool, true, false, List, [], ◌∷◌, ℕ, ◌+◌, ◌<◌}
use Rattle.std.proofs.Common.{sym, ap, ◌∙◌, true≢false}
use Rattle.std.proofs.Math.Option.{Option, none, some}
use Rattle.spec_tests.specs.Rules.{◌≡?◌, pick}
use Rattle.spec_tests.specs.Laws.{no_eq, is_some}
use Rattle.spec_rtl.specs.Rtl.{Control}
use Rattle.spec_rules.specs.Image.{absent, count_at_of, field, control_of, optional}
use Rattle.check_references.specs.Good.{GoodBit, GoodControl, GoodOptional}
use Rattle.spec_model.specs.Words.{Netlist, control_words}
use Rattle.spec_model.specs.Lowering.{Whole, option_control, bit_step, control_steps}
use Rattle.scratch_view.specs.View.{limit_of, is_whole, state_of}
use Rattle.scratch_view.specs.Laws.{read_whole, whole_none}
use Rattle.image_records.specs.declared.Control as C
use Rattle.image_records.specs.Others.{control_means, enable_means}
use Rattle.walk_view.specs.Met.{met}
use Rattle.walk_view.specs.View.{walk_state}
use Rattle.phase_parts.specs.declared.ControlWords.{ControlWords}

-- a control that may be absent: its signal is there and 1 wide
abbrev pub ThereControl : List ℕ → Option Control → Type 0
ThereControl s none = Unit {0}
ThereControl s (some c) = GoodBit s c.signal

-- the two words of a control, whatever the netlist
abbrev pub IsControl : List ℕ → List ℕ → Option Control → ControlWords → Type 0
IsControl s w o x = (l : Netlist) → control_words (option_control (state_of s l w) o) ≡ x.net ∷ x.level ∷ []

-- fields f and f + 1 of record r of section k
pub control_there : (s : List ℕ) (k r f : ℕ) → GoodOptional s k r f → ThereControl s (optional (field s k r f) (control_of (field s k r f) (field s k r (f + 1))))
unfolding optional pick control_of
control_there s k r f g = go (field s k r f ≡? absent) (λ h. g.some (no_eq _ absent h))
  where
    go : (t : Bool) → (t ≡ false → GoodControl s k r f) → ThereControl s (pick t none (some (control_of (field s k r f) (field s k r (f + 1)))))
    go true h = tt
    go false h = (h refl).bit

-- the code's control
module _ (e : code.Option C.Control) where
  pub there_present : (s : List ℕ) (c : C.Control) → e ≡ code.Some c → ThereControl s (enable_means e) → GoodBit s c.signal
  unfolding enable_means control_means
  there_present s c q h = rw q at h

  pub steps_absent : e ≡ code.None → control_steps (enable_means e) ≡ []
  unfolding enable_means
  steps_absent q = rw q

  pub steps_present : (c : C.Control) → e ≡ code.Some c → control_steps (enable_means e) ≡ bit_step c.signal
  unfolding enable_means control_means
  steps_present c q = rw q

-- a whole expression that is met is whole in the table
pub met_whole : (s net w : List ℕ) (e : ℕ) → e < count_at_of s 1 → met (walk_state s net w) (Whole e) ≡ true → is_whole s (limit_of w) w e ≡ true
unfolding met
met_whole s net w e h m = go (is_whole s (limit_of w) w e) refl
  where
    go : (t : Bool) → is_whole s (limit_of w) w e ≡ t → t ≡ true
    go true q = refl
    go false q = absurd (true≢false (sym m ∙ ap is_some (read_whole s (limit_of w) _ w e h ∙ whole_none s (limit_of w) w e q)))
