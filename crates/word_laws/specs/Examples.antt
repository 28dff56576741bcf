-- Worked examples of IEEE 1800's operators on two-valued words, by computation. Assumes nothing.
use Rattle.std.specs.Prelude.{◌≡◌, refl, true, false, [], ◌∷◌, ◌+◌, ◌*◌, ◌^◌, pos, negsuc}
use Rattle.spec_rtl.specs.Word.{value, bits}
use Rattle.spec_rtl.specs.Ops.{top, signed, not_w, and_w, or_w, xor_w, add_w, add_c, sub_w, mul_w, eq_w, lt_u, le_u, lt_s, le_s, shl, shr, any_r, all_r, par_r, join_w, slice_w}

-- 8'd255 + 8'd1, 8'd200 + 8'd100 + 1, 8'd3 - 8'd5, 8'd16 * 8'd17
sum_wraps : value (add_w (bits 8 255) (bits 8 1)) ≡ 0
sum_wraps = refl

sum_carry : value (add_c (bits 8 200) (bits 8 100) true) ≡ 45
sum_carry = refl

difference_wraps : value (sub_w (bits 8 3) (bits 8 5)) ≡ 254
difference_wraps = refl

product_wraps : value (mul_w (bits 8 16) (bits 8 17)) ≡ 16
product_wraps = refl

product_wide : value (mul_w (bits 64 (2 ^ 63 + 12345)) (bits 64 987654321)) ≡ 12345 * 987654321 + 2 ^ 63
product_wide = refl

-- ~8'hA5, 8'hCC & 8'hAA, |, ^
complement : value (not_w (bits 8 165)) ≡ 90
complement = refl

and_bits : value (and_w (bits 8 204) (bits 8 170)) ≡ 136
and_bits = refl

or_bits : value (or_w (bits 8 204) (bits 8 170)) ≡ 238
or_bits = refl

xor_bits : value (xor_w (bits 8 204) (bits 8 170)) ≡ 102
xor_bits = refl

-- 8'd128 is -128 and 8'd255 is -1 where the operator is signed
least : signed (bits 8 128) ≡ negsuc 127
least = refl

minus_one : signed (bits 8 255) ≡ negsuc 0
minus_one = refl

most : signed (bits 8 127) ≡ pos 127
most = refl

less_signed : lt_s (bits 8 128) (bits 8 127) ≡ true
less_signed = refl

less_unsigned : lt_u (bits 8 128) (bits 8 127) ≡ false
less_unsigned = refl

most_signed : le_s (bits 8 255) (bits 8 254) ≡ false
most_signed = refl

most_unsigned : le_u (bits 8 254) (bits 8 255) ≡ true
most_unsigned = refl

equal_low : eq_w (bits 8 256) (bits 8 0) ≡ true
equal_low = refl

-- 8'sd128 >>> 8, 7, 6; shifts by more than the width
arithmetic_8 : value (shr (top (bits 8 128)) (bits 8 128) 8) ≡ 255
arithmetic_8 = refl

arithmetic_7 : value (shr (top (bits 8 128)) (bits 8 128) 7) ≡ 255
arithmetic_7 = refl

arithmetic_6 : value (shr (top (bits 8 128)) (bits 8 128) 6) ≡ 254
arithmetic_6 = refl

arithmetic_plus : value (shr (top (bits 8 64)) (bits 8 64) 5) ≡ 2
arithmetic_plus = refl

left : value (shl (bits 8 129) 1) ≡ 2
left = refl

left_far : value (shl (bits 8 255) 9) ≡ 0
left_far = refl

right_far : value (shr false (bits 8 255) 300) ≡ 0
right_far = refl

left_wide : value (shl (bits 1024 1) 1023) ≡ 2 ^ 1023
left_wide = refl

-- {4'hA, 4'h5, 1'b1}, and bits 6 down to 3 of 8'hA5
joined : value (join_w (bits 4 10 ∷ bits 4 5 ∷ bits 1 1 ∷ [])) ≡ 331
joined = refl

part_select : value (slice_w 3 4 (bits 8 165)) ≡ 4
part_select = refl

-- |8'h00, |8'h10, &8'hFF, &8'hFE, ^8'h07, ^8'h03
or_none : any_r (bits 8 0) ≡ false
or_none = refl

or_one : any_r (bits 8 16) ≡ true
or_one = refl

and_all : all_r (bits 8 255) ≡ true
and_all = refl

and_but_one : all_r (bits 8 254) ≡ false
and_but_one = refl

xor_odd : par_r (bits 8 7) ≡ true
xor_odd = refl

xor_even : par_r (bits 8 3) ≡ false
xor_even = refl
