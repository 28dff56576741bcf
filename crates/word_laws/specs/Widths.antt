-- Well-formed expressions (docs/RULES.md, widths; operands have lower numbers), and that the word of each has its width. Assumes nothing.
use Rattle.std.specs.Prelude.{◌≡◌, refl, Bool, true, false, not, cond, List, [], ◌∷◌, map, ℕ, zero, suc, ◌+◌, ◌≤◌, ◌<◌, length, get_or}
use Rattle.std.proofs.Common.{sym, ◌∙◌, not-suc-le-zero, arith, length-append}
use Rattle.std.proofs.lemmas.List.{length-map}
use Rattle.spec_rtl.specs.Word.{length_bits}
use Rattle.spec_rtl.specs.Ops.{join_w}
use Rattle.spec_rtl.specs.Table.{entry_is}
use Rattle.spec_rtl.specs.Rtl as R
use Rattle.spec_rtl.specs.Rtl.{Expr, Kind, Valuation, word, word1, rule, unary, binary}
use Rattle.spec_model.specs.Ranges.{expr_at, width_at}
use Rattle.word_laws.specs.Shift.{length_tab}
use Rattle.word_laws.specs.Values.{length_map2, slice_wide}

-- each of the numbers is below x
abbrev pub AllBelow : ℕ → List ℕ → Type 0
AllBelow x [] = Unit {0}
AllBelow x (y ∷ ys) = (y < x) × AllBelow x ys

pub map_below : {B : Type 0} (g h : ℕ → B) (x : ℕ) (ys : List ℕ) → AllBelow x ys → ((j : ℕ) → j < x → g j ≡ h j) → map g ys ≡ map h ys
map_below g h x [] b e = refl
map_below g h x (y ∷ ys) b e = rw (e y b.0, map_below g h x ys b.1 e)

-- the operands of expression e have lower numbers
abbrev pub BelowE : ℕ → Kind → Type 0
BelowE e (R.Signal s lsb) = Unit {0}
BelowE e (R.Constant n) = Unit {0}
BelowE e (R.Un op a) = a < e
BelowE e (R.Bin op a b) = (a < e) × (b < e)
BelowE e (R.Mux a b c) = (a < e) × (b < e) × (c < e)
BelowE e (R.Concat ps) = AllBelow e ps
BelowE e (R.Slice a lsb) = a < e

low_e : (v : Valuation) (e w : ℕ) (k : Kind) → BelowE e k → (g h : ℕ → List Bool) → ((j : ℕ) → j < e → g j ≡ h j) → word1 v g w k ≡ word1 v h w k
low_e v e w (R.Signal s lsb) b g h q = refl
low_e v e w (R.Constant n) b g h q = refl
low_e v e w (R.Un op a) b g h q = rw (q a b)
low_e v e w (R.Bin op a a') b g h q = rw (q a b.0, q a' b.1)
low_e v e w (R.Mux a a' a'') b g h q = rw (q a b.0, q a' b.1, q a'' b.2)
low_e v e w (R.Concat ps) b g h q = rw (map_below g h e ps b q)
low_e v e w (R.Slice a lsb) b g h q = rw (q a b)

pub word_is : (xs : List Expr) (v : Valuation) (e : ℕ) → e < length xs → BelowE e (expr_at xs e).kind
    → word xs v e ≡ rule v (word xs v) (expr_at xs e)
word_is xs v e h b = entry_is [] (rule v) xs e (record { width = 0; kind = R.Constant 0 }) h
    (λ g k q. low_e v e (expr_at xs e).width (expr_at xs e).kind b g k q)

abbrev pub sum_of : (ℕ → ℕ) → List ℕ → ℕ
sum_of g [] = 0
sum_of g (p ∷ ps) = sum_of g ps + g p

abbrev pub UnWidth : R.Unary → ℕ → ℕ → Type 0
UnWidth R.BitNot w a = a ≡ w
UnWidth R.LogicNot w a = 1 ≡ w
UnWidth R.ReduceOr w a = 1 ≡ w
UnWidth R.ReduceAnd w a = 1 ≡ w
UnWidth R.ReduceXor w a = 1 ≡ w

abbrev pub BinWidth : R.Binary → ℕ → ℕ → ℕ → Type 0
BinWidth R.And w a b = (a ≡ w) × (b ≡ w)
BinWidth R.Or w a b = (a ≡ w) × (b ≡ w)
BinWidth R.Xor w a b = (a ≡ w) × (b ≡ w)
BinWidth R.Add w a b = (a ≡ w) × (b ≡ w)
BinWidth R.Sub w a b = (a ≡ w) × (b ≡ w)
BinWidth R.Mul w a b = (a ≡ w) × (b ≡ w)
BinWidth R.Equal w a b = (1 ≡ w) × (a ≡ b)
BinWidth R.NotEqual w a b = (1 ≡ w) × (a ≡ b)
BinWidth R.LessU w a b = (1 ≡ w) × (a ≡ b)
BinWidth R.LessS w a b = (1 ≡ w) × (a ≡ b)
BinWidth R.LessEqU w a b = (1 ≡ w) × (a ≡ b)
BinWidth R.LessEqS w a b = (1 ≡ w) × (a ≡ b)
BinWidth R.GreaterU w a b = (1 ≡ w) × (a ≡ b)
BinWidth R.GreaterS w a b = (1 ≡ w) × (a ≡ b)
BinWidth R.GreaterEqU w a b = (1 ≡ w) × (a ≡ b)
BinWidth R.GreaterEqS w a b = (1 ≡ w) × (a ≡ b)
BinWidth R.ShiftL w a b = a ≡ w
BinWidth R.ShiftR w a b = a ≡ w
BinWidth R.ShiftA w a b = a ≡ w

-- docs/RULES.md, widths
abbrev pub WidthOk : (ℕ → ℕ) → ℕ → Kind → Type 0
WidthOk g w (R.Signal s lsb) = Unit {0}
WidthOk g w (R.Constant n) = Unit {0}
WidthOk g w (R.Un op a) = UnWidth op w (g a)
WidthOk g w (R.Bin op a b) = BinWidth op w (g a) (g b)
WidthOk g w (R.Mux c t e) = (g c ≡ 1) × (g t ≡ w) × (g e ≡ w)
WidthOk g w (R.Concat ps) = sum_of g ps ≡ w
WidthOk g w (R.Slice a lsb) = lsb + w ≤ g a

pub un_width : (op : R.Unary) (w : ℕ) (a : List Bool) → UnWidth op w (length a) → length (unary op a) ≡ w
un_width R.BitNot w a h = length-map a not ∙ h
un_width R.LogicNot w a h = h
un_width R.ReduceOr w a h = h
un_width R.ReduceAnd w a h = h
un_width R.ReduceXor w a h = h

pub bin_width : (op : R.Binary) (w : ℕ) (a b : List Bool) → BinWidth op w (length a) (length b) → length (binary op a b) ≡ w
bin_width R.And w a b h = length_map2 _ a b (h.0 ∙ sym h.1) ∙ h.0
bin_width R.Or w a b h = length_map2 _ a b (h.0 ∙ sym h.1) ∙ h.0
bin_width R.Xor w a b h = length_map2 _ a b (h.0 ∙ sym h.1) ∙ h.0
bin_width R.Add w a b h = length_bits (length a) _ ∙ h.0
bin_width R.Sub w a b h = length_bits (length a) _ ∙ h.0
bin_width R.Mul w a b h = length_bits (length a) _ ∙ h.0
bin_width R.Equal w a b h = h.0
bin_width R.NotEqual w a b h = h.0
bin_width R.LessU w a b h = h.0
bin_width R.LessS w a b h = h.0
bin_width R.LessEqU w a b h = h.0
bin_width R.LessEqS w a b h = h.0
bin_width R.GreaterU w a b h = h.0
bin_width R.GreaterS w a b h = h.0
bin_width R.GreaterEqU w a b h = h.0
bin_width R.GreaterEqS w a b h = h.0
bin_width R.ShiftL w a b h = length_tab (length a) _ ∙ h
bin_width R.ShiftR w a b h = length_tab (length a) _ ∙ h
bin_width R.ShiftA w a b h = length_tab (length a) _ ∙ h

pub cond_width : (b : Bool) (w : ℕ) (x y : List Bool) → length x ≡ w → length y ≡ w → length (cond b x y) ≡ w
cond_width true w x y h k = h
cond_width false w x y h k = k

pub join_width : (g : ℕ → List Bool) (f : ℕ → ℕ) (e : ℕ) (ps : List ℕ) → AllBelow e ps → ((j : ℕ) → j < e → length (g j) ≡ f j) → length (join_w (map g ps)) ≡ sum_of f ps
join_width g f e [] b h = refl
join_width g f e (p ∷ ps) b h = length-append (join_w (map g ps)) (g p) ∙ rw (join_width g f e ps b.1 h, h p b.0)

-- the word of an expression has its width, if those below it have theirs
kind_width : (v : Valuation) (g : ℕ → List Bool) (f : ℕ → ℕ) (e w : ℕ) (k : Kind) → BelowE e k → WidthOk f w k → ((j : ℕ) → j < e → length (g j) ≡ f j) → length (word1 v g w k) ≡ w
kind_width v g f e w (R.Signal s lsb) b o h = length_tab w _
kind_width v g f e w (R.Constant n) b o h = length_bits w n
kind_width v g f e w (R.Un op a) b o h = un_width op w (g a) (rw (h a b) o)
kind_width v g f e w (R.Bin op a c) b o h = bin_width op w (g a) (g c) (rw (h a b.0, h c b.1) o)
kind_width v g f e w (R.Mux c t d) b o h = cond_width (get_or (g c) 0 false) w (g t) (g d) (h t b.1 ∙ o.1) (h d b.2 ∙ o.2)
kind_width v g f e w (R.Concat ps) b o h = join_width g f e ps b h ∙ o
kind_width v g f e w (R.Slice a lsb) b o h = slice_wide lsb w (g a) (rw (h a b) o)

-- each width is at least 1, each operand stands below its expression, and the widths agree
pub record Formed (xs : List Expr) : Type 0 where
  pub least : (e : ℕ) → e < length xs → 1 ≤ width_at xs e
  pub low : (e : ℕ) → e < length xs → BelowE e (expr_at xs e).kind
  pub wide : (e : ℕ) → e < length xs → WidthOk (width_at xs) (width_at xs e) (expr_at xs e).kind

pub word_width : (xs : List Expr) → Formed xs → (v : Valuation) (e : ℕ) → e < length xs → length (word xs v e) ≡ width_at xs e
word_width xs f v e h = upto (suc e) e (omega arith) h
  where
    upto : (n e : ℕ) → e < n → e < length xs → length (word xs v e) ≡ width_at xs e
    upto zero e l h = absurd (not-suc-le-zero l)
    upto (suc n) e l h = rw (word_is xs v e h (f.low e h)) (kind_width v (word xs v) (width_at xs) e (width_at xs e) (expr_at xs e).kind (f.low e h) (f.wide e h)
        (λ j k. upto n j (omega arith) (omega arith)))
