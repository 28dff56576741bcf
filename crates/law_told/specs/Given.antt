-- The list of an accepted image is its records one after the other, and what is given of nodes and records one by one is them. Assumes
-- nothing.
use Rattle.std.specs.Prelude.{ℕ, ◌+◌, ◌-◌, ◌≤◌, ◌<◌, ◌≡◌, refl, true, false, not, List, [], ◌∷◌, ◌++◌, get_or}
use native.Mathlib.Omega.{arith}
use Rattle.std.proofs.Math.Path.{sym}
use Rattle.std.proofs.Common.{ap, ◌∙◌, append_assoc, length-append}
use Rattle.std.proofs.Math.ListN.{length, get_or-append}
use Rattle.std.proofs.Math.Seq.{take-append_seam}
use Rattle.spec_tests.specs.Rules.{◌<?◌, ◌≡?◌, ◌or◌, ◌and◌, pick}
use Rattle.spec_tests.specs.Laws.{or_no, no_lt, lt_yes, lt_no}
use Rattle.spec_rules.specs.NetlistImage.{node_word, record_length}
use Rattle.spec_model.specs.Words.{Node, list_words}
use Rattle.spec_netlist.specs.Accept.{nets, used, wrong_word}
use Rattle.spec_netlist.specs.Given.{list_from, record_from, is_node, node_given, is_record, record_given}
use Rattle.law_told.specs.Told.{both, pick_yes, pick_no}
use Rattle.law_told.specs.If.{Rights}

-- ---- a record ----

pub list_append : (xs ys : List (List ℕ)) → list_words (xs ++ ys) ≡ list_words xs ++ list_words ys
list_append [] ys = refl
list_append (x ∷ xs) ys = ap (λ (z : List ℕ). x ++ z) (list_append xs ys) ∙ sym (append_assoc x (list_words xs) (list_words ys))

pub record Fit (r rest : List ℕ) : Type 0 where
  pub some : 0 < length r
  pub long : record_length (r ++ rest) ≡ length r
  pub sort : get_or r 0 0 ≤ 4

fit_here : (ws : List ℕ) (earlier : List (List ℕ)) (r : List ℕ) (rs : List (List ℕ)) → Rights ws earlier (r ∷ rs) → Fit r (list_words rs)
unfolding wrong_word ◌≡?◌ pick
fit_here ws earlier r rs h =
    let a = get_or-append r (list_words rs) 0 0 h.0 in
    let b = no_lt 4 (get_or (r ++ list_words rs) 0 0) (or_no (h.2 0 h.0)).0 in
    record { some = h.0; long = h.1; sort = omega arith }

pub fit_at : (ws : List ℕ) (earlier a : List (List ℕ)) (r : List ℕ) (b : List (List ℕ)) → Rights ws earlier (a ++ (r ∷ b)) → Fit r (list_words b)
fit_at ws earlier [] r b h = fit_here ws earlier r b h
fit_at ws earlier (x ∷ a) r b h = fit_at ws (earlier ++ (x ∷ [])) a r b h.3

-- the words that record r gives at list word p: it begins there, its sort, its length, the list word after it, and its words
pub record Gives (ws : List ℕ) (p : ℕ) (r : List ℕ) : Type 0 where
  pub begins : is_record ws p ≡ true
  pub given : record_given ws p ≡ get_or r 0 0 ∷ length r ∷ (p + length r) ∷ []
  pub words : record_from ws p ≡ r

pub gives : (ws : List ℕ) (p : ℕ) (r rest : List ℕ) → Fit r rest → p < used ws → list_from ws p ≡ r ++ rest → Gives ws p r
unfolding is_record record_given record_from
gives ws p r rest f h e =
    let n = length-append r rest in
    let l = f.long in
    let s = f.sort in
    let z : get_or (r ++ rest) 0 0 ≡ get_or r 0 0 = get_or-append r rest 0 0 f.some in
    let b : (p <? used ws and get_or (r ++ rest) 0 0 <? 5 and not (length (r ++ rest) <? record_length (r ++ rest))) ≡ true =
    both _ _ (lt_yes p (used ws) h) (both _ _ (lt_yes (get_or (r ++ rest) 0 0) 5 (omega arith)) (ap not (lt_no (length (r ++ rest)) (record_length (r ++ rest)) (omega arith)))) in
    record {
      begins = rw e b;
      given = rw e (pick_yes _ _ _ b ∙ rw (z, f.long));
      words = rw (e, f.long) (take-append_seam r rest);
    }

-- ---- nodes, of any words ----

pub given_node : (ws : List ℕ) (n : ℕ) → n < nets ws
    → (is_node ws n ≡ true) × (node_given ws n ≡ node_word ws n 0 ∷ node_word ws n 1 ∷ node_word ws n 2 ∷ node_word ws n 3 ∷ node_word ws n 4 ∷ node_word ws n 5 ∷ [])
unfolding is_node node_given
given_node ws n h = let e = lt_yes n (nets ws) h in (e, pick_yes (n <? nets ws) _ _ e)

pub given_none : (ws : List ℕ) (n : ℕ) → nets ws ≤ n → (is_node ws n ≡ false) × (node_given ws n ≡ 0 ∷ 0 ∷ 0 ∷ 0 ∷ 0 ∷ 0 ∷ [])
unfolding is_node node_given
given_none ws n h = let e = lt_no n (nets ws) h in (e, pick_no (n <? nets ws) _ _ e)

-- ---- of words that read as a netlist ----

abbrev pub six_of : Node → List ℕ
six_of x = x.kind ∷ x.owner ∷ x.bit ∷ x.in0 ∷ x.in1 ∷ x.in2 ∷ []
