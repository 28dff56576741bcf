-- The pieces of a net line, and how a line is made of them.
use Prim.Native.Nat.{ℕ, suc, ◌+◌, ◌-◌, ◌≤◌, ◌<◌}
use Rattle.std.specs.Prelude.{Bool, true, false, ◌≡◌, refl, length, drop, get_or}
use mathlib.Core.List.{List, [], ◌∷◌, ◌++◌, append-nil, append_assoc}
use Rattle.std.proofs.Common.{◌⊎◌, ⊎_elim, sym, ◌∙◌, add-one, drop_of_length-le}
use Rattle.std.proofs.Math.Seq.{drop-cons}
use Rattle.std.proofs.Math.Path.{ap}
use Rattle.std.proofs.Math.Nat.{sub-zero}
use native.Mathlib.Omega.{arith}
use Rattle.std.proofs.Math.ListN.{get_or-eq_default}
use Rattle.spec_tests.specs.Rules.{◌≡?◌, ◌or◌, pick, each, list_of}
use Rattle.spec_tests.specs.Laws.{lt_yes, lt_no, eq_yes, eq_no, no_eq, or_left, or_right, or_skip, pick_hit, pick_skip}
use Rattle.spec_rules.specs.Image.{absent, field, name_of, signal_width, first_port}
use Rattle.spec_rules.specs.NetlistImage.{node_word}
use Rattle.spec_rules.specs.Listing.{text, decimal, line, together, kind_word, bit_name, signal_name, register_name, memory_name, owned, inputs, net_line}
use Rattle.listing_text.specs.Text.{Wrote, wrote_same, spaced, line_spaced, spaced_append, Writing, writing_all, writing_more, writing_done}

-- ---- kinds ----

abbrev kind_words : List (List ℕ)
kind_words = text "input" ∷ text "constant" ∷ text "and" ∷ text "or" ∷ text "xor" ∷ text "not" ∷ text "mux" ∷ text "registeroutput"
    ∷ text "output" ∷ text "memoryoutput" ∷ text "arithmeticoutput" ∷ text "comparisonoutput" ∷ []

-- a number that is no kind has no word
pub no_kind : (k : ℕ) → 12 ≤ k → kind_word k ≡ []
unfolding kind_word
no_kind k h = get_or-eq_default kind_words [] h

-- ---- names of bits ----

-- a bit's number in brackets, nothing where the width is 1
unfoldable pub bit_suffix : ℕ → ℕ → List ℕ
bit_suffix w bit = pick (w ≡? 1) [] (text "[" ++ (decimal bit ++ text "]"))

pub suffix_none : (w bit : ℕ) → w ≡ 1 → bit_suffix w bit ≡ []
unfolding bit_suffix
suffix_none w bit e = sym (pick_hit _ (eq_yes w 1 e) refl)

pub suffix_number : (w bit : ℕ) → (w ≡ 1 → ⊥) → bit_suffix w bit ≡ (91 ∷ []) ++ (decimal bit ++ (93 ∷ []))
unfolding bit_suffix
suffix_number w bit h = sym (pick_skip _ (eq_no w 1 h) refl)

pub bit_name_law : (name : List ℕ) (w bit : ℕ) → bit_name name w bit ≡ name ++ bit_suffix w bit
unfolding bit_name bit_suffix pick
bit_name_law name w bit = go (w ≡? 1)
  where
    go : (t : Bool) → pick t name (name ++ (text "[" ++ (decimal bit ++ text "]"))) ≡ name ++ pick t [] (text "[" ++ (decimal bit ++ text "]"))
    go true = sym (append-nil name)
    go false = refl

-- a bit of a memory's second port
unfoldable pub second_name : List ℕ → ℕ → ℕ → List ℕ
second_name name w bit = bit_name (name ++ text "_b") w bit

pub second_name_law : (name : List ℕ) (w bit : ℕ) → second_name name w bit ≡ name ++ (text "_b" ++ bit_suffix w bit)
unfolding second_name
second_name_law name w bit = bit_name_law (name ++ text "_b") w bit ∙ append_assoc name (text "_b") (bit_suffix w bit)

module _ {o : List ℕ} {at : ℕ} {o' : List ℕ} {r : ℕ} where
  pub signal_wrote : (s : List ℕ) (p bit : ℕ) {name : List ℕ} {w : ℕ} → name ≡ name_of s 0 p → w ≡ signal_width s p
      → Wrote o at (32 ∷ bit_name name w bit) o' r → Wrote o at (32 ∷ signal_name s p bit) o' r
  unfolding signal_name
  signal_wrote s p bit e f h = rw (e, f) at h

  pub register_wrote : (s : List ℕ) (g bit : ℕ) {name : List ℕ} {p w : ℕ} → name ≡ name_of s 4 g → p ≡ field s 4 g 2 → w ≡ signal_width s p
      → Wrote o at (32 ∷ bit_name name w bit) o' r → Wrote o at (32 ∷ register_name s g bit) o' r
  unfolding register_name
  register_wrote s g bit e q f h = rw (e, f, q) at h

  pub memory_wrote : (s : List ℕ) (m bit : ℕ) {name : List ℕ} {p w : ℕ} → name ≡ name_of s 5 m → p ≡ field s 5 m (first_port + 1) → w ≡ signal_width s p
      → bit < w → Wrote o at (32 ∷ bit_name name w bit) o' r → Wrote o at (32 ∷ memory_name s m bit) o' r
  unfolding memory_name
  memory_wrote s m bit e q f l h =
      let i = f ∙ ap (signal_width s) q in
      wrote_same (ap (λ (t : List ℕ). 32 ∷ t) (sym (pick_hit _ (lt_yes _ _ (rw i at l)) refl))) (rw (e, i) at h)

  pub second_wrote : (s : List ℕ) (m bit : ℕ) {name : List ℕ} {p w : ℕ} → name ≡ name_of s 5 m → p ≡ field s 5 m (first_port + 1) → w ≡ signal_width s p
      → w ≤ bit → Wrote o at (32 ∷ second_name name w (bit - w)) o' r → Wrote o at (32 ∷ memory_name s m bit) o' r
  unfolding memory_name second_name
  second_wrote s m bit e q f l h =
      let i = f ∙ ap (signal_width s) q in
      wrote_same (ap (λ (t : List ℕ). 32 ∷ t) (sym (pick_skip _ (lt_no _ _ (rw i at l)) refl))) (rw (e, i) at h)

-- a name with nothing that marks it
pub unmarked : (name : List ℕ) (w bit : ℕ) {o : List ℕ} {at : ℕ} {o' : List ℕ} {r : ℕ} → Wrote o at (32 ∷ bit_name (name ++ []) w bit) o' r → Wrote o at (32 ∷ bit_name name w bit) o' r
unmarked name w bit h = wrote_same (ap (λ (t : List ℕ). 32 ∷ bit_name t w bit) (sym (append-nil name))) h

-- ---- what a node is, by its kind ----

spaced_one : (w : List ℕ) → spaced (w ∷ []) ≡ 32 ∷ w
unfolding spaced
spaced_one w = append-nil (32 ∷ w)

spaced_two : (v w : List ℕ) → spaced (v ∷ w ∷ []) ≡ (32 ∷ v) ++ (32 ∷ w)
unfolding spaced
spaced_two v w = ap (λ (t : List ℕ). (32 ∷ v) ++ t) (append-nil (32 ∷ w))

module _ (s : List ℕ) (k owner bit : ℕ) where
  pub owned_port : (k ≡? 0 or k ≡? 8) ≡ true → spaced (owned s k owner bit) ≡ 32 ∷ signal_name s owner bit
  unfolding owned
  owned_port e = ap spaced (sym (pick_hit _ e refl)) ∙ spaced_one _

  module _ (a : (k ≡? 0 or k ≡? 8) ≡ false) where
    pub owned_constant : k ≡ 1 → spaced (owned s k owner bit) ≡ 32 ∷ decimal owner
    unfolding owned
    owned_constant e = ap spaced (sym (pick_skip _ a (pick_hit _ (eq_yes k 1 e) refl))) ∙ spaced_one _

    module _ (b : k ≡ 1 → ⊥) where
      pub owned_register : k ≡ 7 → spaced (owned s k owner bit) ≡ 32 ∷ register_name s owner bit
      unfolding owned
      owned_register e = ap spaced (sym (pick_skip _ a (pick_skip _ (eq_no k 1 b) (pick_hit _ (eq_yes k 7 e) refl)))) ∙ spaced_one _

      module _ (d : k ≡ 7 → ⊥) where
        pub owned_memory : k ≡ 9 → spaced (owned s k owner bit) ≡ 32 ∷ memory_name s owner bit
        unfolding owned
        owned_memory e = ap spaced (sym (pick_skip _ a (pick_skip _ (eq_no k 1 b) (pick_skip _ (eq_no k 7 d) (pick_hit _ (eq_yes k 9 e) refl))))) ∙ spaced_one _

        module _ (f : k ≡ 9 → ⊥) where
          pub owned_cell : (k ≡? 10 or k ≡? 11) ≡ true → spaced (owned s k owner bit) ≡ (32 ∷ decimal owner) ++ (32 ∷ decimal bit)
          unfolding owned
          owned_cell e =
              ap spaced (sym (pick_skip _ a (pick_skip _ (eq_no k 1 b) (pick_skip _ (eq_no k 7 d) (pick_skip _ (eq_no k 9 f) (pick_hit _ e refl)))))) ∙ spaced_two _ _

          pub owned_none : (k ≡? 10 or k ≡? 11) ≡ false → spaced (owned s k owner bit) ≡ []
          unfolding owned spaced
          owned_none e = ap spaced (sym (pick_skip _ a (pick_skip _ (eq_no k 1 b) (pick_skip _ (eq_no k 7 d) (pick_skip _ (eq_no k 9 f) (pick_skip _ e refl))))))

-- the kinds with a signal, and with a cell
pub port_kind : {k : ℕ} → (k ≡ 0) ⊎ (k ≡ 8) → (k ≡? 0 or k ≡? 8) ≡ true
port_kind {k} h = ⊎_elim (λ (e : k ≡ 0). or_left (k ≡? 8) (eq_yes k 0 e)) (λ (e : k ≡ 8). or_right (k ≡? 0) (eq_yes k 8 e)) h

pub other_kind : (k : ℕ) → (k ≡ 0 → ⊥) → (k ≡ 8 → ⊥) → (k ≡? 0 or k ≡? 8) ≡ false
other_kind k a b = sym (or_skip (eq_no k 0 a) (sym (eq_no k 8 b)))

pub cell_kind : (k : ℕ) → 10 ≤ k → k ≤ 11 → (k ≡? 10 or k ≡? 11) ≡ true
cell_kind k h l = go (k ≡? 10) refl
  where
    go : (t : Bool) → (k ≡? 10) ≡ t → (k ≡? 10 or k ≡? 11) ≡ true
    go true e = or_left (k ≡? 11) e
    go false e = or_right (k ≡? 10) (eq_yes k 11 (omega (arith, no_eq k 10 e)))

pub above : {k : ℕ} → 7 ≤ k → (k ≡ 7 → ⊥) → (k ≡ 8 → ⊥) → (k ≡ 9 → ⊥) → 10 ≤ k
above h a b d = omega arith

pub no_cell_kind : (k : ℕ) → (k ≡ 10 → ⊥) → (k ≡ 11 → ⊥) → (k ≡? 10 or k ≡? 11) ≡ false
no_cell_kind k a b = sym (or_skip (eq_no k 10 a) (sym (eq_no k 11 b)))

-- ---- inputs ----

pub input_none : (n : ℕ) (ns : List ℕ) → n ≡ absent → spaced (inputs (n ∷ ns)) ≡ []
unfolding inputs spaced
input_none n ns e = ap spaced (sym (pick_hit _ (eq_yes n absent e) refl))

pub input_more : (n : ℕ) (ns : List ℕ) → (n ≡ absent → ⊥) → spaced (inputs (n ∷ ns)) ≡ (32 ∷ decimal n) ++ spaced (inputs ns)
unfolding inputs spaced
input_more n ns h = ap spaced (sym (pick_skip _ (eq_no n absent h) refl))

pub input_last : (n : ℕ) → (n ≡ absent → ⊥) → spaced (inputs (n ∷ [])) ≡ 32 ∷ decimal n
unfolding inputs
input_last n h = ap spaced (sym (pick_skip _ (eq_no n absent h) refl)) ∙ spaced_one (decimal n)

-- a loop over a node's inputs: of the text, those from the i-th on remain
pub inputs_start : (ns o : List ℕ) (at : ℕ) → at ≤ length o → Writing o at (spaced (inputs ns)) o at (spaced (inputs (drop 0 ns)))
inputs_start ns o at h = writing_all o at (spaced (inputs ns)) h

abbrev left : List ℕ → List ℕ
left l = spaced (inputs l)

module _ (ns : List ℕ) {o : List ℕ} {at : ℕ} {o₁ : List ℕ} {to i : ℕ} where
  pub inputs_stop : i < length ns → get_or ns i 0 ≡ absent → Writing o at (left ns) o₁ to (left (drop i ns)) → Wrote o at (left ns) o₁ to
  inputs_stop h e w = writing_done (ap left (drop-cons ns i 0 h) ∙ input_none (get_or ns i 0) (drop (suc i) ns) e) w

  pub inputs_next : i < length ns → (get_or ns i 0 ≡ absent → ⊥) → Writing o at (left ns) o₁ to (left (drop i ns)) → {o₂ : List ℕ} {r : ℕ} → Wrote o₁ to (32 ∷ decimal (get_or ns i 0)) o₂ r
      → Writing o at (left ns) o₂ r (left (drop (i + 1) ns))
  inputs_next h n w q =
      let z : suc i ≡ i + 1 = omega arith in
      writing_more (ap left (drop-cons ns i 0 h) ∙ input_more (get_or ns i 0) (drop (suc i) ns) n ∙ ap (λ (k : ℕ). (32 ∷ decimal (get_or ns i 0)) ++ left (drop k ns)) z) w q

  pub inputs_end : length ns ≤ i → Writing o at (left ns) o₁ to (left (drop i ns)) → Wrote o at (left ns) o₁ to
  unfolding inputs spaced
  inputs_end h w = writing_done (ap left (drop_of_length-le ns h)) w

-- ---- lines ----

pub net_line_law : (s ws : List ℕ) (n : ℕ) → net_line s ws n ≡ decimal n ++ ((32 ∷ kind_word (node_word ws n 0))
    ++ (spaced (owned s (node_word ws n 0) (node_word ws n 1) (node_word ws n 2)) ++ (spaced (inputs (node_word ws n 3 ∷ node_word ws n 4 ∷ node_word ws n 5 ∷ [])) ++ (10 ∷ []))))
unfolding net_line spaced
net_line_law s ws n =
    let a = owned s (node_word ws n 0) (node_word ws n 1) (node_word ws n 2) in
    let b = inputs (node_word ws n 3 ∷ node_word ws n 4 ∷ node_word ws n 5 ∷ []) in
    line_spaced (decimal n) (kind_word (node_word ws n 0) ∷ (a ++ b)) ∙ ap (λ (t : List ℕ). decimal n ++ t)
    (rw (spaced_append a b) (append_assoc (32 ∷ kind_word (node_word ws n 0)) (spaced a ++ spaced b) (10 ∷ []) ∙ ap (λ (t : List ℕ). (32 ∷ kind_word (node_word ws n 0)) ++ t) (append_assoc (spaced a) (spaced b) (10 ∷ []))))

-- its pieces one after another, of words that were read
pub net_line_wrote : (s ws : List ℕ) (n : ℕ) {k a b x y z : ℕ} → k ≡ node_word ws n 0 → a ≡ node_word ws n 1 → b ≡ node_word ws n 2
    → x ≡ node_word ws n 3 → y ≡ node_word ws n 4 → z ≡ node_word ws n 5 → {o : List ℕ} {at : ℕ} {o' : List ℕ} {r : ℕ}
    → Wrote o at (decimal n ++ ((32 ∷ kind_word k) ++ (spaced (owned s k a b) ++ (spaced (inputs (x ∷ y ∷ z ∷ [])) ++ (10 ∷ []))))) o' r → Wrote o at (net_line s ws n) o' r
net_line_wrote s ws n e₀ e₁ e₂ e₃ e₄ e₅ h = wrote_same (net_line_law s ws n) (rw (e₀, e₁, e₂, e₃, e₄, e₅) at h)

-- net count, list words
unfoldable pub first_line : List ℕ → List ℕ
first_line ws = line (text "nets" ∷ decimal (get_or ws 1 0) ∷ text "list" ∷ decimal (get_or ws 3 0) ∷ [])

pub first_line_law : (ws : List ℕ) → first_line ws ≡ text "nets" ++ ((32 ∷ decimal (get_or ws 1 0)) ++ ((32 ∷ text "list") ++ ((32 ∷ decimal (get_or ws 3 0)) ++ (10 ∷ []))))
unfolding first_line spaced
first_line_law ws = line_spaced _ _ ∙ simp append_assoc

pub first_line_wrote : (ws : List ℕ) {a b : ℕ} → a ≡ get_or ws 1 0 → b ≡ get_or ws 3 0 → {o : List ℕ} {at : ℕ} {o' : List ℕ} {r : ℕ}
    → Wrote o at (text "nets" ++ ((32 ∷ decimal a) ++ ((32 ∷ text "list") ++ ((32 ∷ decimal b) ++ (10 ∷ []))))) o' r → Wrote o at (first_line ws) o' r
first_line_wrote ws e f h = wrote_same (first_line_law ws) (rw (e, f) at h)

-- ---- lines one after another: of n of them the first i are written ----

pub record Lines (f : ℕ → List ℕ) (n : ℕ) (o : List ℕ) (at : ℕ) (o₁ : List ℕ) (to i : ℕ) : Type 0 where
  pub within : i ≤ n
  pub writing : Writing o at (together (list_of n f)) o₁ to (together (each f i (n - i)))

module _ (f : ℕ → List ℕ) (n : ℕ) where
  pub lines_start : (o : List ℕ) (at : ℕ) → at ≤ length o → Lines f n o at o at 0
  unfolding list_of
  lines_start o at h = record { within = omega arith; writing = rw (sub-zero n) (writing_all o at _ h) }

  next : (i : ℕ) → i < n → together (each f i (n - i)) ≡ f i ++ together (each f (i + 1) (n - (i + 1)))
  unfolding each together
  next i h =
      let e : n - i ≡ suc (n - suc i) = omega arith in
      rw (e, add-one)

  pub lines_more : {o : List ℕ} {at : ℕ} {o₁ : List ℕ} {to i : ℕ} {o₂ : List ℕ} {r : ℕ} → i < n → Lines f n o at o₁ to i → Wrote o₁ to (f i) o₂ r → Lines f n o at o₂ r (i + 1)
  lines_more h l w = record { within = omega arith; writing = writing_more (next _ h) l.writing w }

  pub lines_end : {o : List ℕ} {at : ℕ} {o₁ : List ℕ} {to i : ℕ} → n ≤ i → Lines f n o at o₁ to i → Wrote o at (together (list_of n f)) o₁ to
  unfolding each together
  lines_end {i = i} h l =
      let e : n - i ≡ 0 = omega arith in
      writing_done (rw e) l.writing
