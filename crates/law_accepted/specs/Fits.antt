-- What acceptance tells of an expression, by its kind as the code reads it: `expr_fits`.
use Rattle.std.specs.Prelude.{ℕ, zero, suc, ◌+◌, ◌≤◌, ◌<◌, List, ◌≡◌, refl}
use Rattle.std.proofs.Common.{sym, arith}
use Rattle.spec_tests.specs.Rules.{◌≡?◌, pick, sum_to}
use Rattle.spec_rules.specs.Image.{count_at_of, field, list_word, signal_width, expr_width, constant_words}
use Rattle.image_fields.specs.Fields.{field_in}
use Rattle.image_records.specs.declared.ExprKind.{ExprKind}
use Rattle.image_records.specs.declared.ExprKind.TheVariants.{Signal, Constant, Unary, Binary, Mux, Concat, Slice}
use Rattle.image_records.specs.Expr.{unary_of, unary_means, binary_of, binary_means, kind_of, expression_in, expression_of}
use Rattle.word_laws.specs.Widths.{UnWidth, BinWidth}
use Rattle.check_expressions.specs.Good.{GoodUnary, GoodBinary, GoodKind}
use Rattle.check_image.specs.Accepted.{Accepted}

-- image, record, width, kind
abbrev pub kind_fits_of : List ℕ → ℕ → ℕ → ExprKind → Type 0
kind_fits_of s e w (Signal p lsb) = (p < count_at_of s 0) × (lsb + w ≤ signal_width s p)
kind_fits_of s e w (Constant start) = start + constant_words w ≤ count_at_of s 2
kind_fits_of s e w (Unary op a) = (a < e) × UnWidth (unary_means op) w (expr_width s a)
kind_fits_of s e w (Binary op a b) = (a < e) × (b < e) × BinWidth (binary_means op) w (expr_width s a) (expr_width s b)
kind_fits_of s e w (Mux c t f) = (c < e) × (t < e) × (f < e) × (expr_width s c ≡ 1) × (expr_width s t ≡ w) × (expr_width s f ≡ w)
kind_fits_of s e w (Concat start n) =
    (1 ≤ n) × (start + n ≤ count_at_of s 2) × ((i : ℕ) → i < n → list_word s (start + i) < e)
    × (sum_to (λ i. expr_width s (list_word s (start + i))) n ≡ w)
kind_fits_of s e w (Slice a lsb) = (a < e) × (lsb + w ≤ expr_width s a)

unary_fits : (s : List ℕ) (e w a b c : ℕ) → GoodUnary s e w a b c → UnWidth (unary_means (unary_of a)) w (expr_width s b)
unfolding unary_of unary_means
unary_fits s e w zero b c g = g.same refl
unary_fits s e w (suc zero) b c g = sym (g.one (omega arith))
unary_fits s e w (suc (suc zero)) b c g = sym (g.one (omega arith))
unary_fits s e w (suc (suc (suc zero))) b c g = sym (g.one (omega arith))
unary_fits s e w (suc (suc (suc (suc zero)))) b c g = sym (g.one (omega arith))
unary_fits s e w (suc (suc (suc (suc (suc a))))) b c g = absurd (omega arith)

binary_fits : (s : List ℕ) (e w a b c : ℕ) → GoodBinary s e w a b c → BinWidth (binary_means (binary_of a)) w (expr_width s b) (expr_width s c)
unfolding binary_of binary_means
binary_fits s e w zero b c g = g.same (omega arith)
binary_fits s e w (suc zero) b c g = g.same (omega arith)
binary_fits s e w (suc (suc zero)) b c g = g.same (omega arith)
binary_fits s e w (suc (suc (suc zero))) b c g = g.same (omega arith)
binary_fits s e w (suc (suc (suc (suc zero)))) b c g = g.same (omega arith)
binary_fits s e w (suc (suc (suc (suc (suc zero))))) b c g = g.same (omega arith)
binary_fits s e w (suc (suc (suc (suc (suc (suc zero)))))) b c g = let h = g.compared (omega arith) (omega arith) in (sym h.0, h.1)
binary_fits s e w (suc (suc (suc (suc (suc (suc (suc zero))))))) b c g = let h = g.compared (omega arith) (omega arith) in (sym h.0, h.1)
binary_fits s e w (suc (suc (suc (suc (suc (suc (suc (suc zero)))))))) b c g = let h = g.compared (omega arith) (omega arith) in (sym h.0, h.1)
binary_fits s e w (suc (suc (suc (suc (suc (suc (suc (suc (suc zero))))))))) b c g = let h = g.compared (omega arith) (omega arith) in (sym h.0, h.1)
binary_fits s e w (suc (suc (suc (suc (suc (suc (suc (suc (suc (suc zero)))))))))) b c g = let h = g.compared (omega arith) (omega arith) in (sym h.0, h.1)
binary_fits s e w (suc (suc (suc (suc (suc (suc (suc (suc (suc (suc (suc zero))))))))))) b c g = let h = g.compared (omega arith) (omega arith) in (sym h.0, h.1)
binary_fits s e w (suc (suc (suc (suc (suc (suc (suc (suc (suc (suc (suc (suc zero)))))))))))) b c g = let h = g.compared (omega arith) (omega arith) in (sym h.0, h.1)
binary_fits s e w (suc (suc (suc (suc (suc (suc (suc (suc (suc (suc (suc (suc (suc zero))))))))))))) b c g = let h = g.compared (omega arith) (omega arith) in (sym h.0, h.1)
binary_fits s e w (suc (suc (suc (suc (suc (suc (suc (suc (suc (suc (suc (suc (suc (suc zero)))))))))))))) b c g = let h = g.compared (omega arith) (omega arith) in (sym h.0, h.1)
binary_fits s e w (suc (suc (suc (suc (suc (suc (suc (suc (suc (suc (suc (suc (suc (suc (suc zero))))))))))))))) b c g = let h = g.compared (omega arith) (omega arith) in (sym h.0, h.1)
binary_fits s e w (suc (suc (suc (suc (suc (suc (suc (suc (suc (suc (suc (suc (suc (suc (suc (suc zero)))))))))))))))) b c g = g.shifted (omega arith)
binary_fits s e w (suc (suc (suc (suc (suc (suc (suc (suc (suc (suc (suc (suc (suc (suc (suc (suc (suc zero))))))))))))))))) b c g = g.shifted (omega arith)
binary_fits s e w (suc (suc (suc (suc (suc (suc (suc (suc (suc (suc (suc (suc (suc (suc (suc (suc (suc (suc zero)))))))))))))))))) b c g = g.shifted (omega arith)
binary_fits s e w (suc (suc (suc (suc (suc (suc (suc (suc (suc (suc (suc (suc (suc (suc (suc (suc (suc (suc (suc a))))))))))))))))))) b c g = absurd (omega arith)

kind_fits : (s : List ℕ) (e w k a b c : ℕ) → GoodKind s e k w a b c → kind_fits_of s e w (kind_of k a b c)
unfolding kind_of pick ◌≡?◌
kind_fits s e w zero a b c g = let h = g.read refl in (h.there, h.room)
kind_fits s e w (suc zero) a b c g = (g.constant refl).room
kind_fits s e w (suc (suc zero)) a b c g = let h = g.unary refl in (h.lower, unary_fits s e w a b c h)
kind_fits s e w (suc (suc (suc zero))) a b c g = let h = g.binary refl in (h.left, h.right, binary_fits s e w a b c h)
kind_fits s e w (suc (suc (suc (suc zero)))) a b c g = let h = g.mux refl in (h.condition, h.left, h.right, h.one, h.same_left, h.same_right)
kind_fits s e w (suc (suc (suc (suc (suc zero))))) a b c g = let h = g.concat refl in (h.part, h.room, h.lower, h.sum)
kind_fits s e w (suc (suc (suc (suc (suc (suc zero)))))) a b c g = let h = g.slice refl in (h.lower, h.room)
kind_fits s e w (suc (suc (suc (suc (suc (suc (suc k))))))) a b c g = absurd (omega (arith, g.known))

-- the expression that the code reads
pub expr_fits : (s : List ℕ) (e : ℕ) → Accepted s → e < count_at_of s 1 → kind_fits_of s e (expression_of s e).width (expression_of s e).kind
unfolding expression_of expression_in field_in field expr_width
expr_fits s e g h = kind_fits s e _ _ _ _ _ (g.exprs e h).kind
