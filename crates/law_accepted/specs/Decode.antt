-- The records of the decoded module are those of the image, by number.
use Rattle.std.specs.Prelude.{ℕ, ◌<◌, List, ◌≡◌, length, get_or}
use Rattle.spec_rtl.specs.Rtl as R
use Rattle.spec_rules.specs.Image as image
use Rattle.scratch_view.specs.Rows.{length_list_of, at_list_of}

module _ (s : List ℕ) (r : ℕ) where
  pub signal_decoded : (d : R.Sig) → r < image.count_at_of s 0 → get_or (image.decode s).signals r d ≡ image.signal_at s r
  unfolding image.decode
  signal_decoded d h = at_list_of _ (image.signal_at s) r d h

  pub expr_decoded : (d : R.Expr) → r < image.count_at_of s 1 → get_or (image.decode s).exprs r d ≡ image.expr_at s r
  unfolding image.decode
  expr_decoded d h = at_list_of _ (image.expr_at s) r d h

  pub assign_decoded : (d : R.Assign) → r < image.count_at_of s 3 → get_or (image.decode s).assigns r d ≡ image.assign_at s r
  unfolding image.decode
  assign_decoded d h = at_list_of _ (image.assign_at s) r d h

  pub register_decoded : (d : R.Register) → r < image.count_at_of s 4 → get_or (image.decode s).registers r d ≡ image.register_at s r
  unfolding image.decode
  register_decoded d h = at_list_of _ (image.register_at s) r d h

  pub memory_decoded : (d : R.Memory) → r < image.count_at_of s 5 → get_or (image.decode s).memories r d ≡ image.memory_at s r
  unfolding image.decode
  memory_decoded d h = at_list_of _ (image.memory_at s) r d h

-- how many there are
pub record Lengths (s : List ℕ) : Type 0 where
  pub signals : length (image.decode s).signals ≡ image.count_at_of s 0
  pub exprs : length (image.decode s).exprs ≡ image.count_at_of s 1
  pub assigns : length (image.decode s).assigns ≡ image.count_at_of s 3
  pub registers : length (image.decode s).registers ≡ image.count_at_of s 4
  pub memories : length (image.decode s).memories ≡ image.count_at_of s 5

pub lengths : (s : List ℕ) → Lengths s
unfolding image.decode
lengths s = record {
  signals = length_list_of _ (image.signal_at s);
  exprs = length_list_of _ (image.expr_at s);
  assigns = length_list_of _ (image.assign_at s);
  registers = length_list_of _ (image.register_at s);
  memories = length_list_of _ (image.memory_at s);
}
