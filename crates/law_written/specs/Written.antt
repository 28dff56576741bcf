-- The words of a netlist within its limits: what is read is what was written, and acceptance down to its nodes and records. Assumes nothing.
use Prim.Native.Nat.{ℕ, zero, suc, ◌+◌, ◌*◌, ◌-◌, ◌≤◌, ◌<◌}
use Rattle.std.proofs.Common.{not-suc-le-zero, sym, ◌∙◌, length-append, get_or-drop, get_or-append-add}
use native.Mathlib.Omega.{arith}
use Rattle.std.proofs.Math.Decide.{dec_lt}
use Rattle.std.specs.Prelude.{◌≡◌, Bool, true, false, List, [], ◌∷◌, ◌++◌, eqb, length, drop}
use Rattle.std.proofs.Math.Path.{refl, ap}
use Rattle.std.proofs.Math.Bool.{not}
use Rattle.std.proofs.Math.ListN.{take, get_or, replicate, get_or-append}
use Rattle.std.proofs.lemmas.List.{length-replicate}
use Rattle.std.proofs.Math.Seq.{take-append_seam}
use Rattle.spec_tests.specs.Rules.{◌<?◌, ◌≡?◌, ◌≢?◌, ◌or◌, pick, outside, only, Fine}
use Rattle.spec_tests.specs.Laws.{lt_no, ne_no}
use Rattle.spec_rules.specs.NetlistImage.{node_word, records_of}
use Rattle.spec_model.specs.Words.{Node, Netlist, used, count, bit_word, list_words, words}
use Rattle.spec_model.specs.Words as W
use Rattle.spec_model.specs.Builder.{node_for_net}
use Rattle.net_view.specs.View.{node_at_of, AllFormed, Fit}
use Rattle.net_view.specs.Records.{used_length}
use Rattle.net_view.specs.Laws.{flat, nodes_words_append, length_flat, words_parts, length_words, words_list, words_view, node_there}
use Rattle.spec_netlist.specs.Accept as A
use Rattle.spec_netlist.specs.Accept.{nets, list_at_of, limit, wrong_header, wrong_node_word, count_of, wrong_count, alone, accepts}
use Rattle.spec_netlist.specs.Given.{Same}
use Rattle.law_told.specs.Told.{neither, pick_yes}
use Rattle.law_told.specs.If.{Rights, accepted}

zero_at : (q i : ℕ) → get_or {A = ℕ} (replicate q 0) i 0 ≡ 0
zero_at zero i = refl
zero_at (suc q) zero = refl
zero_at (suc q) (suc i) = zero_at q i

-- the model counts records as the rules do
count_of_law : (t : ℕ) (rs : List (List ℕ)) → AllFormed rs → count t rs ≡ count_of t rs
unfolding count count_of only ◌≡?◌ pick
count_of_law t [] h = refl
count_of_law t ([] ∷ rs) h = absurd (not-suc-le-zero h.0.some)
count_of_law t ((x ∷ r) ∷ rs) h = at (eqb x t) (count_of_law t rs h.1)
  where
    at : (b : Bool) → count t rs ≡ length (only (λ r. eqb (get_or r 0 0) t) rs)
        → bit_word b + count t rs ≡ length (pick b ((x ∷ r) ∷ only (λ r. eqb (get_or r 0 0) t) rs) (only (λ r. eqb (get_or r 0 0) t) rs))
    at true e = omega arith
    at false e = omega arith

module _ (n p : ℕ) (l : Netlist) (f : Fit n p l) where
  abbrev ws : List ℕ
  ws = words n p l

  nets_is : nets ws ≡ length l.nodes
  unfolding words
  nets_is = refl

  list_at : list_at_of ws ≡ 16 + 6 * n
  unfolding words
  list_at = refl

  used_is : A.used ws ≡ used l.records
  unfolding words
  used_is = refl

  limit_is : limit ws ≡ n
  limit_is = let e = list_at in omega arith

  -- ---- "what is read is what was lowered" ----

  node_is : (k : ℕ) → k < nets ws → node_at_of ws k ≡ node_for_net l k
  node_is k h = sym (node_there n ws k h) ∙ ap (λ (x : Netlist). node_for_net x k) (words_view n p l f)

  records_is : records_of ws ≡ l.records
  records_is = ap (λ (x : Netlist). x.records) (words_view n p l f)

  word_of : (k j : ℕ) → node_word ws k j ≡ get_or ws (16 + 6 * k + j) 0
  unfolding node_word words
  word_of k j = refl

  pub same : Same ws l
  unfolding node_at_of
  same = record {
    count = nets_is;
    kind = λ k h. word_of k 0 ∙ (let z : 16 + 6 * k + 0 ≡ 16 + 6 * k = omega arith in ap (λ (i : ℕ). get_or ws i 0) z) ∙ ap (λ (x : Node). x.kind) (node_is k h);
    owner = λ k h. word_of k 1 ∙ ap (λ (x : Node). x.owner) (node_is k h);
    bit = λ k h. word_of k 2 ∙ ap (λ (x : Node). x.bit) (node_is k h);
    in0 = λ k h. word_of k 3 ∙ ap (λ (x : Node). x.in0) (node_is k h);
    in1 = λ k h. word_of k 4 ∙ ap (λ (x : Node). x.in1) (node_is k h);
    in2 = λ k h. word_of k 5 ∙ ap (λ (x : Node). x.in2) (node_is k h);
    records = records_is;
  }

  -- ---- acceptance, but for nodes and records ----

  unused_zero : (k j : ℕ) → length l.nodes ≤ k → k < n → j < 6 → get_or ws (16 + 6 * k + j) 0 ≡ 0
  unused_zero k j h g b =
      let len = length_flat l.nodes in
      let zs : List ℕ = replicate (6 * (n - length l.nodes)) 0 in
      let tail : List ℕ = list_words l.records ++ replicate (p - used l.records) 0 in
      let i = 6 * k + j - length (flat l.nodes) in
      let a : 16 + 6 * k + j ≡ 16 + (6 * k + j) = omega arith in
      let m : 6 * k + j ≡ length (flat l.nodes) + i = omega arith in
      let r = length-replicate {A = ℕ} (6 * (n - length l.nodes)) 0 in
      let w = length-append (flat l.nodes) zs in
      ap (λ (z : ℕ). get_or ws z 0) a ∙ sym (get_or-drop 16 ws (6 * k + j) 0)
      ∙ ap (λ (z : List ℕ). get_or (drop 16 z) (6 * k + j) 0) (words_parts n p l)
      ∙ ap (λ (z : List ℕ). get_or (z ++ tail) (6 * k + j) 0) (nodes_words_append l.nodes zs)
      ∙ get_or-append (flat l.nodes ++ zs) tail 0 (6 * k + j) (omega arith)
      ∙ ap (λ (z : ℕ). get_or (flat l.nodes ++ zs) z 0) m
      ∙ get_or-append-add (flat l.nodes) zs i 0 ∙ zero_at (6 * (n - length l.nodes)) i

  unused_right : (k j : ℕ) → length l.nodes ≤ k → k < n → j < 6 → wrong_node_word ws k j ≡ false
  unfolding wrong_node_word
  unused_right k j h g b =
      let e = nets_is in
      pick_yes (not (k <? nets ws)) _ _ (ap not (lt_no k (nets ws) (omega arith))) ∙ ne_no (node_word ws k j) 0 (word_of k j ∙ unused_zero k j h g b)

  module _ (some : 0 < n) (few : n ≤ 65535) (short : p ≤ 65535) where
    offset_right : (outside (limit ws) 1 65535 or list_at_of ws ≢? 16 + 6 * limit ws or limit ws <? nets ws) ≡ false
    unfolding outside
    offset_right =
        let a = limit_is in
        let b = list_at in
        let c = nets_is in
        let d = f.few in
        neither _ _ (neither _ _ (lt_no (limit ws) 1 (omega arith)) (lt_no 65535 (limit ws) (omega arith)))
        (neither _ _ (ne_no (list_at_of ws) (16 + 6 * limit ws) (omega arith)) (lt_no (limit ws) (nets ws) (omega arith)))

    header_right : (i : ℕ) → i < 16 → wrong_header ws i ≡ false
    unfolding wrong_header words ◌≡?◌ ◌≢?◌ ◌<?◌ pick
    header_right zero h = refl
    header_right (suc zero) h = lt_no 65535 (length l.nodes) (let d = f.few in omega arith)
    header_right (suc (suc zero)) h = refl
    header_right (suc (suc (suc zero))) h = lt_no 65535 (used l.records) (let d = f.short in omega arith)
    header_right (suc (suc (suc (suc zero)))) h = offset_right
    header_right (suc (suc (suc (suc (suc zero))))) h = refl
    header_right (suc (suc (suc (suc (suc (suc zero)))))) h = refl
    header_right (suc (suc (suc (suc (suc (suc (suc zero))))))) h = refl
    header_right (suc (suc (suc (suc (suc (suc (suc (suc zero)))))))) h = refl
    header_right (suc (suc (suc (suc (suc (suc (suc (suc (suc zero))))))))) h = refl
    header_right (suc (suc (suc (suc (suc (suc (suc (suc (suc (suc zero)))))))))) h = refl
    header_right (suc (suc (suc (suc (suc (suc (suc (suc (suc (suc (suc zero))))))))))) h = refl
    header_right (suc (suc (suc (suc (suc (suc (suc (suc (suc (suc (suc (suc zero)))))))))))) h = refl
    header_right (suc (suc (suc (suc (suc (suc (suc (suc (suc (suc (suc (suc (suc zero))))))))))))) h = refl
    header_right (suc (suc (suc (suc (suc (suc (suc (suc (suc (suc (suc (suc (suc (suc zero)))))))))))))) h = refl
    header_right (suc (suc (suc (suc (suc (suc (suc (suc (suc (suc (suc (suc (suc (suc (suc zero))))))))))))))) h = refl
    header_right (suc (suc (suc (suc (suc (suc (suc (suc (suc (suc (suc (suc (suc (suc (suc (suc i)))))))))))))))) h = absurd (omega arith)

    count_at : (t : ℕ) → t < 5 → get_or ws (5 + t) 0 ≡ count t l.records
    unfolding words
    count_at zero h = refl
    count_at (suc zero) h = refl
    count_at (suc (suc zero)) h = refl
    count_at (suc (suc (suc zero))) h = refl
    count_at (suc (suc (suc (suc zero)))) h = refl
    count_at (suc (suc (suc (suc (suc t))))) h = absurd (omega arith)

    count_right : (t : ℕ) → t < 5 → wrong_count ws t ≡ false
    unfolding wrong_count
    count_right t h = ne_no (get_or ws (5 + t) 0) (count_of t (records_of ws)) (count_at t h ∙ count_of_law t l.records f.formed ∙ ap (count_of t) (sym records_is))

    list_is : take (A.used ws) (drop (list_at_of ws) ws) ≡ list_words l.records
    unfolding words
    list_is =
        ap (take (used l.records)) (words_list n p l f)
        ∙ (let e = used_length l.records in ap (λ (k : ℕ). take k (list_words l.records ++ replicate (p - used l.records) 0)) (sym e))
        ∙ take-append_seam (list_words l.records) (replicate (p - used l.records) 0)

    -- what is left to show of a lowered netlist: each node's words, each record's words, each node's record
    pub record Fitting : Type 0 where
      pub nodes : (k j : ℕ) → k < length l.nodes → j < 6 → wrong_node_word ws k j ≡ false
      pub rights : Rights ws [] l.records
      pub owned : (k : ℕ) → k < length l.nodes → alone ws k ≡ false

    pub fitting_accepted : Fitting → accepts ws ≡ Fine
    fitting_accepted x = accepted ws (record {
      header = header_right;
      sixteen = (let a = length_words n p l f in omega arith);
      whole = (let a = length_words n p l f in let b = list_at in let c = f.short in let d = used_is in omega arith);
      nodes = λ k j h g. each k j (let a = limit_is in omega arith) g;
      records = l.records;
      list = list_is;
      rights = x.rights;
      owned = λ k h. x.owned k (let a = nets_is in omega arith);
      counts = count_right;
    })
      where
        each : (k j : ℕ) → k < n → j < 6 → wrong_node_word ws k j ≡ false
        each k j h g = elim (dec_lt k (length l.nodes)) [
          | yes a ↦ x.nodes k j a g
          | no a ↦ unused_right k j (omega arith) h g
        ]
