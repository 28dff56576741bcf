-- What is proved of specs/Many: A gate for each of a list, and for each pair of two. Assumes nothing.
use Rattle.std.specs.Prelude.{◌≡◌, cond, ℕ, suc, ◌<◌, length}
use Rattle.std.proofs.Common.{sym, ◌∙◌}
use mathlib.Core.List.{List, map}
use Rattle.std.proofs.lemmas.List.{length-map}
use Rattle.spec_model.specs.Words.{Netlist}
use Rattle.spec_model.specs.Builder.{both, add_mux}
use Rattle.word_laws.specs.Shift.{mux_word}
use Rattle.word_laws.specs.Widths.{AllBelow}
use Rattle.law_nets.specs.Meaning.{net_value}
use Rattle.law_nets.specs.Sound.{count, Sound, StandsAll}
use Rattle.law_nets.specs.Run.{Run}
use Rattle.law_nets.proofs.Run.{run_map, all_as}
use Rattle.law_gates.proofs.Gates.{mux_run}
use Rattle.law_gates.specs.Many.{both_run}

-- a mux for each pair: the one word or the other
pub muxes_run : (d : ℕ) (xs ys : List ℕ) (l : Netlist) → Sound l → d < count l → AllBelow (count l) xs → AllBelow (count l) ys → length xs ≡ length ys
    → Run l (λ zs l'. StandsAll l' zs (λ h s c. cond (net_value h s c d) (map (net_value h s c) xs) (map (net_value h s c) ys))) (both (add_mux d) xs ys l)
muxes_run d xs ys l q n b e same =
    run_map (both_run (add_mux d) (λ h s c. cond (net_value h s c d)) (suc d) (λ x y l q k hx hy. mux_run d x y l q k hx hy) xs ys l q n b e)
    (λ zs l' y w. all_as w (λ h z s c. mux_word (net_value h s c d) (map (net_value h s c) xs) (map (net_value h s c) ys)
    (length-map xs (net_value h s c) ∙ same ∙ sym (length-map ys (net_value h s c)))))
