-- The rule of each kind of expression by a name: `bad_kind` picks one of them by the kind's number. Record r, width w, operands a, b, c.
use Rattle.std.specs.Prelude.{ℕ, ◌+◌, ◌≤◌, ◌<◌, Bool, true, false, List, ◌≡◌, refl}
use Rattle.std.proofs.Common.{arith}
use Rattle.spec_tests.specs.Rules.{◌<?◌, ◌≡?◌, ◌≢?◌, ◌or◌, pick}
use Rattle.spec_tests.specs.Laws.{pick_skip, eq_no}
use Rattle.spec_rules.specs.Image.{count_at_of, field, list_word, signal_width, expr_width, constant_words}
use Rattle.spec_rules.specs.Checks.{no_signal, late, bad_unary, bad_binary, bad_concat, bad_kind}

-- part i of a Concat
unfoldable pub late_word : List ℕ → ℕ → ℕ → ℕ → Bool
late_word s r start i = late r (list_word s (start + i))

unfoldable pub part_width : List ℕ → ℕ → ℕ → ℕ
part_width s start i = expr_width s (list_word s (start + i))

unfoldable pub bad_read : List ℕ → ℕ → ℕ → ℕ → ℕ → Bool
bad_read s w a b c = no_signal s a or signal_width s a <? b + w or c ≢? 0

unfoldable pub bad_constant : List ℕ → ℕ → ℕ → ℕ → ℕ → Bool
bad_constant s w a b c = count_at_of s 2 <? a + constant_words w or b ≢? 0 or c ≢? 0

unfoldable pub bad_unary_of : List ℕ → ℕ → ℕ → ℕ → ℕ → ℕ → Bool
bad_unary_of s r w a b c = late r b or bad_unary a w (expr_width s b) or c ≢? 0

unfoldable pub bad_binary_of : List ℕ → ℕ → ℕ → ℕ → ℕ → ℕ → Bool
bad_binary_of s r w a b c = late r b or late r c or bad_binary a w (expr_width s b) (expr_width s c)

unfoldable pub bad_mux : List ℕ → ℕ → ℕ → ℕ → ℕ → ℕ → Bool
bad_mux s r w a b c = late r a or late r b or late r c or expr_width s a ≢? 1 or expr_width s b ≢? w or expr_width s c ≢? w

unfoldable pub bad_concat_of : List ℕ → ℕ → ℕ → ℕ → ℕ → ℕ → Bool
bad_concat_of s r w a b c = bad_concat s r w a b or c ≢? 0

unfoldable pub bad_slice : List ℕ → ℕ → ℕ → ℕ → ℕ → ℕ → Bool
bad_slice s r w a b c = late r a or expr_width s a <? b + w or c ≢? 0

-- the kind and operands of record r, whose width is w
unfoldable pub bad_fields : List ℕ → ℕ → ℕ → Bool
bad_fields s r w = bad_kind s r (field s 1 r 0) w (field s 1 r 2) (field s 1 r 3) (field s 1 r 4)

-- the kind's number picks the rule
pub kind_read : (s : List ℕ) (r k w a b c : ℕ) → k ≡ 0 → bad_read s w a b c ≡ bad_kind s r k w a b c
unfolding bad_kind bad_read pick ◌≡?◌
kind_read s r k w a b c e = rw e

pub kind_constant : (s : List ℕ) (r k w a b c : ℕ) → k ≡ 1 → bad_constant s w a b c ≡ bad_kind s r k w a b c
unfolding bad_kind bad_constant pick ◌≡?◌
kind_constant s r k w a b c e = rw e

pub kind_unary : (s : List ℕ) (r k w a b c : ℕ) → k ≡ 2 → bad_unary_of s r w a b c ≡ bad_kind s r k w a b c
unfolding bad_kind bad_unary_of pick ◌≡?◌
kind_unary s r k w a b c e = rw e

pub kind_binary : (s : List ℕ) (r k w a b c : ℕ) → k ≡ 3 → bad_binary_of s r w a b c ≡ bad_kind s r k w a b c
unfolding bad_kind bad_binary_of pick ◌≡?◌
kind_binary s r k w a b c e = rw e

pub kind_mux : (s : List ℕ) (r k w a b c : ℕ) → k ≡ 4 → bad_mux s r w a b c ≡ bad_kind s r k w a b c
unfolding bad_kind bad_mux pick ◌≡?◌
kind_mux s r k w a b c e = rw e

pub kind_concat : (s : List ℕ) (r k w a b c : ℕ) → k ≡ 5 → bad_concat_of s r w a b c ≡ bad_kind s r k w a b c
unfolding bad_kind bad_concat_of pick ◌≡?◌
kind_concat s r k w a b c e = rw e

pub kind_slice : (s : List ℕ) (r k w a b c : ℕ) → k ≡ 6 → bad_slice s r w a b c ≡ bad_kind s r k w a b c
unfolding bad_kind bad_slice pick ◌≡?◌
kind_slice s r k w a b c e = rw e

pub kind_none : (s : List ℕ) (r k w a b c : ℕ) → 7 ≤ k → true ≡ bad_kind s r k w a b c
unfolding bad_kind
kind_none s r k w a b c h =
    pick_skip _ (far 0 (omega arith)) (pick_skip _ (far 1 (omega arith)) (pick_skip _ (far 2 (omega arith)) (pick_skip _ (far 3 (omega arith)) (pick_skip _ (far 4 (omega arith)) (pick_skip _ (far 5 (omega arith)) (pick_skip _ (far 6 (omega arith)) refl))))))
  where
    far : (n : ℕ) → n < 7 → (k ≡? n) ≡ false
    far n l = eq_no k n (λ e. omega arith)
