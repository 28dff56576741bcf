-- The limits are met and nothing else: under limits N and P the lowering comes to what it comes to without them, if it makes at most N nets and P list words, and is
-- refused 9 or 10 otherwise. So larger limits turn no answer into a refusal and change no netlist. Assumes nothing.
use Rattle.std.specs.Prelude.{◌≡◌, refl, ℕ}
use Rattle.std.proofs.Math.Path.{sym, ap}
use Rattle.std.proofs.Common.{◌∙◌}
use Rattle.spec_model.specs.Words.{Netlist}
use Rattle.spec_model.specs.Builder.{Out, refused, done}
use Rattle.spec_answers.specs.Limits.{Content, content, limited, under}
use Rattle.law_limits.specs.Larger.{done_is, not_done}

-- ---- the bounds of a lowering are its account without limits, and the other way round ----

abbrev pub free : Out Netlist → Out Content
free (refused k x y) = refused k x y
free (done l) = done (content l)

pub free_under : (N P : ℕ) (o : Out Content) → free (under N P o) ≡ o
free_under N P (refused k x y) = refl
free_under N P (done c) = refl

pub under_done : (N P : ℕ) (o : Out Content) (l : Netlist) → under N P o ≡ done l → (o ≡ done (content l)) × (l ≡ limited N P l)
under_done N P (refused k x y) l e = absurd (not_done e)
under_done N P (done c) l e = (ap free e, sym (done_is e) ∙ ap (limited N P) (done_is e))
