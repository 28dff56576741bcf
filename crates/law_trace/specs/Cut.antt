-- An accepted netlist image cut at its last list word used is accepted and makes the same netlist. Assumes nothing.
use Rattle.std.specs.Prelude.{ℕ, ◌+◌, ◌*◌, ◌≤◌, ◌<◌, ◌≡◌, Bool, length, take, drop}
use Rattle.std.proofs.Common.{arith, sym, ◌∙◌, length-take, take-append-drop, get_or-take}
use Rattle.std.proofs.Math.Path.{refl, ap}
use mathlib.Core.List.{List, [], ◌∷◌, ◌++◌}
use Rattle.std.proofs.Math.ListN.{get_or}
use Rattle.spec_tests.specs.Rules.{◌≡?◌, only, Fine}
use Rattle.spec_tests.specs.Laws.{yes_eq}
use Rattle.spec_rules.specs.NetlistImage.{node_word, records_of, records_with, netlist}
use Rattle.spec_model.specs.Words.{Netlist}
use Rattle.spec_netlist.specs.Accept.{nets, accepts}
use Rattle.spec_netlist.specs.Given.{Same}
use Rattle.spec_trace.specs.Opened.{word_count, ports_with}
use Rattle.law_told.specs.Told.{Told, told, whole, few, list_starts_law, nodes_start}
use Rattle.law_told.specs.Behind.{only_these, records_same}
use Rattle.law_call.specs.Further.{Whole}
use Rattle.law_call.proofs.Further.{netlist_same}
use Rattle.law_trace.specs.Shown.{Mem, this, that, mem_in, mem_only, port_at}

abbrev pub cut : List ℕ → List ℕ
cut ws = take (word_count ws) ws

module _ (ws : List ℕ) (ok : accepts ws ≡ Fine) where
  t : Told ws
  t = told ws ok

  joined : cut ws ++ drop (word_count ws) ws ≡ ws
  joined = take-append-drop (word_count ws) ws

  pub cut_long : length (cut ws) ≡ word_count ws
  cut_long = let l = length-take (word_count ws) ws in let w = whole ws t in omega arith

  -- the header is in it
  sixteen : 16 ≤ word_count ws
  sixteen = let s = (list_starts_law ws t).0 in omega arith

  pub cut_head : (i : ℕ) → i < 16 → get_or (cut ws) i 0 ≡ get_or ws i 0
  cut_head i h = get_or-take (word_count ws) ws i 0 (let l = sixteen in omega arith)

  pub cut_count : word_count (cut ws) ≡ word_count ws
  cut_count = let a = cut_head 3 (omega arith) in let b = cut_head 4 (omega arith) in omega arith

  pub cut_accepted : accepts (cut ws) ≡ Fine
  cut_accepted =
      let c = cut_count in
      let l = cut_long in
      let s = sixteen in
      sym (only_these (cut ws) (drop (word_count ws) ws) (omega arith) (omega arith)) ∙ ap accepts joined ∙ ok

  pub cut_netlist : netlist (cut ws) ≡ netlist ws
  cut_netlist =
      let c = cut_count in
      let l = cut_long in
      let s = sixteen in
      let a = (list_starts_law ws t).0 in
      let n = nodes_start ws t in
      let f = few ws t in
      let h1 = cut_head 1 (omega arith) in
      let h2 = cut_head 2 (omega arith) in
      let w : Whole (cut ws) = record { header = omega arith; nodes = omega arith; list = omega arith } in
      sym (netlist_same (cut ws) w (drop (word_count ws) ws)) ∙ ap netlist joined

  pub cut_records : records_of (cut ws) ≡ records_of ws
  cut_records =
      let c = cut_count in
      let l = cut_long in
      let s = sixteen in
      sym (records_same (cut ws) (drop (word_count ws) ws) (omega arith) (omega arith)) ∙ ap records_of joined

  -- and it reads as the same nodes and records
  node_word_law : (k f : ℕ) → k < nets ws → f < 6 → node_word (cut ws) k f ≡ node_word ws k f
  unfolding node_word
  node_word_law k f h j =
      let a = (list_starts_law ws t).0 in
      let n = nodes_start ws t in
      let w = few ws t in
      rw (cut_head 2 (omega arith)) (get_or-take (word_count ws) ws (get_or ws 2 0 + 6 * k + f) 0 (omega arith))

  pub cut_same : (l : Netlist) → Same ws l → Same (cut ws) l
  cut_same l q =
      let c = cut_head 1 (omega arith) in
      let old : (k : ℕ) → k < nets (cut ws) → k < nets ws = (λ k h. rw c at h) in
      record {
        count = c ∙ q.count;
        kind = λ k h. node_word_law k 0 (old k h) (omega arith) ∙ q.kind k (old k h);
        owner = λ k h. node_word_law k 1 (old k h) (omega arith) ∙ q.owner k (old k h);
        bit = λ k h. node_word_law k 2 (old k h) (omega arith) ∙ q.bit k (old k h);
        in0 = λ k h. node_word_law k 3 (old k h) (omega arith) ∙ q.in0 k (old k h);
        in1 = λ k h. node_word_law k 4 (old k h) (omega arith) ∙ q.in1 k (old k h);
        in2 = λ k h. node_word_law k 5 (old k h) (omega arith) ∙ q.in2 k (old k h);
        records = cut_records ∙ q.records;
      }

  -- and the same ports
  only_same : (p q : List ℕ → Bool) (rs : List (List ℕ)) → ((r : List ℕ) → Mem r rs → p r ≡ q r) → only p rs ≡ only q rs
  unfolding only
  only_same p q [] h = refl
  only_same p q (r ∷ rs) h = rw (h r (this refl), only_same p q rs (λ x i. h x (that i)))

  pub cut_ports : (k : ℕ) → ports_with k (cut ws) ≡ ports_with k ws
  unfolding ports_with records_with
  cut_ports k =
      ap (λ (rs : List (List ℕ)). only (λ r. node_word (cut ws) (get_or r 3 0) 0 ≡? k) (only (λ r. get_or r 0 0 ≡? 0) rs)) cut_records
      ∙ only_same (λ r. node_word (cut ws) (get_or r 3 0) 0 ≡? k) (λ r. node_word ws (get_or r 3 0) 0 ≡? k) (records_with 0 ws) (λ r i. ap (λ (z : ℕ). z ≡? k) (node_word_law (get_or r 3 0) 0 (there r i) (omega arith)))
    where
      there : (r : List ℕ) → Mem r (records_with 0 ws) → get_or r 3 0 < nets ws
      there r i =
          let s = mem_only (λ r. get_or r 0 0 ≡? 0) r (records_of ws) i in
          let x = mem_in r (records_of ws) s.0 in
          let p = port_at ws t x.a r x.b x.is (yes_eq (get_or r 0 0) 0 s.1) in
          let l = p.some in
          (p.net 0 (omega arith)).there
