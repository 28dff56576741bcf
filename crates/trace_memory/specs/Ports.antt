-- What memories ask of their records and places; a port that reads or writes, test by test. Assumes nothing.
use Rattle.std.specs.Prelude.{ℕ, ◌+◌, ◌*◌, ◌-◌, ◌≤◌, ◌<◌, ◌≡◌, Bool, false, not, ◌&&◌, length, drop}
use Rattle.std.proofs.Common.{mul-le-mul, arith, subst, ◌∙◌, lt-ltb, le-ltb, length-take}
use Rattle.std.proofs.Math.Numerals.{add-one}
use Rattle.std.proofs.Math.Path.{refl, sym, ap}
use Rattle.std.proofs.Math.Bool.{true, cond}
use mathlib.Core.List.{List, [], map}
use Rattle.std.proofs.Math.Dec.{ltb}
use Rattle.std.proofs.Math.ListN.{take, get_or}
use Rattle.spec_rtl.specs.Word.{bit, value}
use Rattle.spec_tests.specs.Rules.{◌≡?◌}
use Rattle.spec_tests.specs.Laws.{eq_yes, eq_no, pick_hit, pick_skip, sum_none, sum_more}
use Rattle.spec_rules.specs.Image.{optional, control_of}
use Rattle.spec_rules.specs.NetlistImage.{port_lists, port_length, memory_port_of}
use Rattle.spec_rules.specs.Step.{Access, edge, active, enabled, net_access, writing}
use Rattle.law_told.specs.Told.{untrue}
use Rattle.law_sorts.specs.Memories.{own_length}
use Rattle.trace_fit.specs.Fit.{bits_at}
use Rattle.trace_step.specs.Words.{on, spread, laid, identity, fetched, port_read, port_written, second_words, memory_read, memory_written, base_at, memories_read, memories_written}

pub not_true : (b : Bool) → not b ≡ true → b ≡ false
not_true true e = untrue e
not_true false e = refl

pub not_false : (b : Bool) → not b ≡ false → b ≡ true
not_false true e = refl
not_false false e = untrue (sym e)

pub record PortFits (p : List ℕ) (depth width base : ℕ) : Type 0 where
  pub address : get_or p 0 0 ≤ 32
  pub write_address : get_or p 2 0 ≤ 32
  pub written : get_or p 3 0 ≤ width
  pub room : base + depth * width ≤ 65536

pub record MemoryFits (r : List ℕ) (base : ℕ) : Type 0 where
  pub first : PortFits (drop 6 r) (get_or r 2 0) (get_or r 7 0) base
  pub second : get_or r 5 0 ≡ 2 → PortFits (second_words r) (get_or r 2 0) (get_or r 7 0) base

pub record MemoriesFit (ws places : List ℕ) (count : ℕ) : Type 0 where
  pub each : (i : ℕ) → i < count → MemoryFits (drop (get_or places i 0) ws) (base_at ws places i)

-- the row of word a
pub row_in : (a depth width : ℕ) → a < depth → a * width + width ≤ depth * width
row_in a depth width h =
    let f : a + 1 ≤ depth = omega arith in
    let g : width ≤ width = omega arith in
    let z : (a + 1) * width ≤ depth * width = mul-le-mul f g in
    let y : (a + 1) * width ≡ a * width + width = omega arith in
    omega arith

-- a stretch has no more words than it asks for
pub stretch_most : {l : List ℕ} (p : List ℕ) {w : ℕ} (a : ℕ) {k : ℕ} → l ≡ take w (drop a p) → w ≡ k → length l ≤ k
stretch_most {l} p {w} a e f = let x = ap length e in let y = length-take w (drop a p) in omega arith

pub stretch_few : {l : List ℕ} (p : List ℕ) {w : ℕ} (a : ℕ) {k : ℕ} → l ≡ take w (drop a p) → w ≡ k → k ≤ 32 → length l ≤ 32
stretch_few p a e f h = let m = stretch_most p a e f in omega arith

-- ---- a port's words ----

module _ (p : List ℕ) {n : ℕ} (en : n ≡ port_length p) where
  e_is : n - 6 ≡ 4 + port_lists p
  e_is = let l = own_length p in omega arith

  at_is : (k : ℕ) {x : ℕ} → x ≡ get_or p (n - 6 + k) 0 → x ≡ get_or p (4 + port_lists p + k) 0
  at_is k e = e ∙ ap (λ (i : ℕ). get_or p (i + k) 0) e_is

  -- its clock
  pub tick_is : (v w : List ℕ) {x y : ℕ} → x ≡ get_or p (n - 6 + 4) 0 → y ≡ get_or p (n - 6 + 5) 0 → {b : Bool} → b ≡ edge (y ≡? 0) (on v x) (on w x) → b ≡ (net_access (on v) (on w) (memory_port_of p)).ticks
  unfolding memory_port_of
  tick_is v w {x} {y} ex ey eb =
      eb ∙ ap (λ (k : ℕ). edge (y ≡? 0) (on v k) (on w k)) (at_is 4 ex) ∙ ap (λ (k : ℕ). edge (k ≡? 0) (on v (get_or p (4 + port_lists p + 4) 0)) (on w (get_or p (4 + port_lists p + 4) 0))) (at_is 5 ey)

  pub reads_is : (v w : List ℕ) {x y : ℕ} → x ≡ get_or p (n - 6) 0 → y ≡ get_or p (n - 6 + 1) 0 → {b : Bool} → b ≡ enabled (on v) (optional x (control_of x y)) → b ≡ (net_access (on v) (on w) (memory_port_of p)).reads
  unfolding memory_port_of
  reads_is v w {x} {y} ex ey eb =
      eb ∙ ap (λ (k : ℕ). enabled (on v) (optional k (control_of k y))) (ex ∙ ap (λ (i : ℕ). get_or p i 0) e_is)
      ∙ ap (λ (k : ℕ). enabled (on v) (optional (get_or p (4 + port_lists p) 0) (control_of (get_or p (4 + port_lists p) 0) k))) (at_is 1 ey)

  pub writes_is : (v w : List ℕ) {x y : ℕ} → x ≡ get_or p (n - 6 + 2) 0 → y ≡ get_or p (n - 6 + 3) 0 → {b : Bool} → b ≡ active (on v) (control_of x y) → b ≡ (net_access (on v) (on w) (memory_port_of p)).writes
  unfolding memory_port_of
  writes_is v w {x} {y} ex ey eb =
      eb ∙ ap (λ (k : ℕ). active (on v) (control_of k y)) (at_is 2 ex) ∙ ap (λ (k : ℕ). active (on v) (control_of (get_or p (4 + port_lists p + 2) 0) k)) (at_is 3 ey)

module _ (p v w : List ℕ) where
  pub read_at_is : {a : ℕ} → a ≡ get_or p 0 0 → {l : List ℕ} → l ≡ take a (drop 4 p) → {x : ℕ} → x ≡ value (map (on v) l) → x ≡ (net_access (on v) (on w) (memory_port_of p)).read_at_of
  unfolding memory_port_of
  read_at_is ea el ex = ex ∙ ap (λ (l : List ℕ). value (map (on v) l)) (el ∙ ap (λ (k : ℕ). take k (drop 4 p)) ea)

module _ (p v : List ℕ) where
  pub write_at_is : {a b c : ℕ} → a ≡ get_or p 0 0 → b ≡ get_or p 1 0 → c ≡ get_or p 2 0 → {l : List ℕ} → l ≡ take c (drop (4 + a + b) p) → {x : ℕ} → x ≡ value (map (on v) l)
      → x ≡ value (map (on v) (memory_port_of p).write_address)
  unfolding memory_port_of
  write_at_is {a} {b} {c} ea eb ec el ex =
      ex ∙ ap (λ (l : List ℕ). value (map (on v) l)) (el ∙ ap (λ (k : ℕ). take k (drop (4 + a + b) p)) ec ∙ ap (λ (k : ℕ). take (get_or p 2 0) (drop (4 + a + k) p)) eb
      ∙ ap (λ (k : ℕ). take (get_or p 2 0) (drop (4 + k + get_or p 1 0) p)) ea)

module _ (p : List ℕ) where
  pub read_data_is : {a b : ℕ} → a ≡ get_or p 0 0 → b ≡ get_or p 1 0 → {l : List ℕ} → l ≡ take b (drop (4 + a) p) → l ≡ (memory_port_of p).read_data
  unfolding memory_port_of
  read_data_is {a} {b} ea eb el = el ∙ ap (λ (k : ℕ). take k (drop (4 + a) p)) eb ∙ ap (λ (k : ℕ). take (get_or p 1 0) (drop (4 + k) p)) ea

  pub write_data_is : {a b c d : ℕ} → a ≡ get_or p 0 0 → b ≡ get_or p 1 0 → c ≡ get_or p 2 0 → d ≡ get_or p 3 0 → {l : List ℕ} → l ≡ take d (drop (4 + a + b + c) p) → l ≡ (memory_port_of p).write_data
  unfolding memory_port_of
  write_data_is {a} {b} {c} {d} ea eb ec ed el =
      el ∙ ap (λ (k : ℕ). take k (drop (4 + a + b + c) p)) ed ∙ ap (λ (k : ℕ). take (get_or p 3 0) (drop (4 + a + b + k) p)) ec
      ∙ ap (λ (k : ℕ). take (get_or p 3 0) (drop (4 + a + k + get_or p 2 0) p)) eb ∙ ap (λ (k : ℕ). take (get_or p 3 0) (drop (4 + k + get_or p 1 0 + get_or p 2 0) p)) ea

-- ---- reading ----

module _ (depth width : ℕ) (mem : List ℕ) (base : ℕ) (p v w : List ℕ) {t : Bool} (et : t ≡ (net_access (on v) (on w) (memory_port_of p)).ticks) where
  abbrev x : ℕ
  x = (net_access (on v) (on w) (memory_port_of p)).read_at_of

  abbrev full : List ℕ
  full = spread identity w (memory_port_of p).read_data (fetched depth width mem base x)

  pub read_still : not t ≡ true → w ≡ port_read depth width mem base p v w
  unfolding port_read
  read_still e = sym (ap (λ (b : Bool). cond (b && (net_access (on v) (on w) (memory_port_of p)).reads) full w) (sym et ∙ not_true t e))

  module _ (yes : not t ≡ false) {r : Bool} (er : r ≡ (net_access (on v) (on w) (memory_port_of p)).reads) where
    both : (b : Bool) → r ≡ b → port_read depth width mem base p v w ≡ cond b full w
    unfolding port_read
    both b e =
        ap (λ (b : Bool). cond (b && (net_access (on v) (on w) (memory_port_of p)).reads) full w) (sym et ∙ not_false t yes) ∙ ap (λ (b : Bool). cond b full w) (sym er ∙ e)

    pub read_shut : not r ≡ true → w ≡ port_read depth width mem base p v w
    read_shut e = sym (both false (not_true r e))

    module _ (allowed : not r ≡ false) {a : ℕ} (ea : a ≡ x) {ns : List ℕ} (en : ns ≡ (memory_port_of p).read_data) where
      pub read_past : depth ≤ a → {l : List ℕ} → l ≡ [] → {w' : List ℕ} → w' ≡ spread identity w ns l → w' ≡ port_read depth width mem base p v w
      unfolding fetched
      read_past h {l} el e =
          e ∙ ap (λ (z : List ℕ). spread identity w z l) en ∙ ap (spread identity w (memory_port_of p).read_data) (el ∙ sym (ap (λ (b : Bool). cond b (take width (drop (base + x * width) mem)) []) (le-ltb x depth (omega arith))))
          ∙ sym (both true (not_false r allowed))

      pub read_word : a < depth → {l : List ℕ} → l ≡ take width (drop (base + a * width) mem) → {w' : List ℕ} → w' ≡ spread identity w ns l → w' ≡ port_read depth width mem base p v w
      unfolding fetched
      read_word h {l} el e =
          e ∙ ap (λ (z : List ℕ). spread identity w z l) en
          ∙ ap (spread identity w (memory_port_of p).read_data) (el ∙ ap (λ (k : ℕ). take width (drop (base + k * width) mem)) ea ∙ sym (ap (λ (b : Bool). cond b (take width (drop (base + x * width) mem)) []) (lt-ltb x depth (omega arith))))
          ∙ sym (both true (not_false r allowed))

-- ---- writing ----

module _ (p v w : List ℕ) {t : Bool} (et : t ≡ (net_access (on v) (on w) (memory_port_of p)).ticks) where
  pub not_writing : not t ≡ true → false ≡ writing (net_access (on v) (on w) (memory_port_of p))
  not_writing e = sym (ap (λ (b : Bool). b && (net_access (on v) (on w) (memory_port_of p)).writes) (sym et ∙ not_true t e))

  pub is_writing : not t ≡ false → {r : Bool} → r ≡ (net_access (on v) (on w) (memory_port_of p)).writes → r ≡ writing (net_access (on v) (on w) (memory_port_of p))
  is_writing e er = er ∙ sym (ap (λ (b : Bool). b && (net_access (on v) (on w) (memory_port_of p)).writes) (sym et ∙ not_false t e))

module _ (depth width base : ℕ) (p v w mem : List ℕ) {t : Bool} (et : t ≡ writing (net_access (on v) (on w) (memory_port_of p))) where
  abbrev y : Access
  y = net_access (on v) (on w) (memory_port_of p)

  abbrev stored : List ℕ
  stored = laid mem (base + y.write_at * width) (map (λ n. bit (on v n)) (memory_port_of p).write_data)

  so : (b : Bool) → t ≡ b → port_written depth width base p v w mem ≡ cond (b && ltb y.write_at depth) stored mem
  unfolding port_written
  so b e = ap (λ (b : Bool). cond b stored mem) (ap (λ (b : Bool). b && ltb y.write_at depth) (sym et ∙ e))

  pub write_shut : not t ≡ true → mem ≡ port_written depth width base p v w mem
  write_shut e = sym (so false (not_true t e))

  module _ (allowed : not t ≡ false) {a : ℕ} (ea : a ≡ value (map (on v) (memory_port_of p).write_address)) where
    pub write_past : depth ≤ a → mem ≡ port_written depth width base p v w mem
    write_past h = sym (so true (not_false t allowed) ∙ ap (λ (b : Bool). cond b stored mem) (le-ltb y.write_at depth (omega arith)))

    pub write_word : a < depth → {ns : List ℕ} → ns ≡ (memory_port_of p).write_data → {m' : List ℕ} → m' ≡ laid mem (base + a * width) (map (λ n. bit (on v n)) ns) → m' ≡ port_written depth width base p v w mem
    write_word h {ns} en e =
        e ∙ ap (λ (k : ℕ). laid mem (base + k * width) (map (λ n. bit (on v n)) ns)) ea ∙ ap (λ (l : List ℕ). laid mem (base + y.write_at * width) (map (λ n. bit (on v n)) l)) en
        ∙ sym (so true (not_false t allowed) ∙ ap (λ (b : Bool). cond b stored mem) (lt-ltb y.write_at depth (omega arith)))

-- ---- a record ----

module _ (r : List ℕ) (base : ℕ) {d n k : ℕ} (ed : d ≡ get_or r 2 0) (en : n ≡ get_or r 7 0) (ek : k ≡ get_or r 5 0) {p : List ℕ} (ep : p ≡ drop 6 r) where
  module _ (mem v w : List ℕ) {w' : List ℕ} (e : w' ≡ port_read d n mem base p v w) where
    first_read : w' ≡ port_read (get_or r 2 0) (get_or r 7 0) mem base (drop 6 r) v w
    first_read = e ∙ ap (λ (x : ℕ). port_read x n mem base p v w) ed ∙ ap (λ (x : ℕ). port_read (get_or r 2 0) x mem base p v w) en ∙ ap (λ (l : List ℕ). port_read (get_or r 2 0) (get_or r 7 0) mem base l v w) ep

    pub one_read : (k ≡ 2 → ⊥) → w' ≡ memory_read mem base r v w
    unfolding memory_read
    one_read q = first_read ∙ pick_skip _ (eq_no _ 2 (λ z. q (ek ∙ z))) refl

    pub two_read : k ≡ 2 → {q : List ℕ} → q ≡ second_words r → {w'' : List ℕ} → w'' ≡ port_read d n mem base q v w' → w'' ≡ memory_read mem base r v w
    unfolding memory_read
    two_read z {q} eq {w''} f =
        pick_hit _ (eq_yes _ 2 (sym ek ∙ z)) (f ∙ ap (λ (x : ℕ). port_read x n mem base q v w') ed ∙ ap (λ (x : ℕ). port_read (get_or r 2 0) x mem base q v w') en
        ∙ ap (λ (l : List ℕ). port_read (get_or r 2 0) (get_or r 7 0) mem base l v w') eq ∙ ap (port_read (get_or r 2 0) (get_or r 7 0) mem base (second_words r) v) first_read)

  module _ (v w mem : List ℕ) {m' : List ℕ} (e : m' ≡ port_written d n base p v w mem) where
    first_written : m' ≡ port_written (get_or r 2 0) (get_or r 7 0) base (drop 6 r) v w mem
    first_written = e ∙ ap (λ (x : ℕ). port_written x n base p v w mem) ed ∙ ap (λ (x : ℕ). port_written (get_or r 2 0) x base p v w mem) en ∙ ap (λ (l : List ℕ). port_written (get_or r 2 0) (get_or r 7 0) base l v w mem) ep

    pub one_written : (k ≡ 2 → ⊥) → m' ≡ memory_written base r v w mem
    unfolding memory_written
    one_written q = first_written ∙ pick_skip _ (eq_no _ 2 (λ z. q (ek ∙ z))) refl

    pub two_written : k ≡ 2 → {q : List ℕ} → q ≡ second_words r → {m'' : List ℕ} → m'' ≡ port_written d n base q v w m' → m'' ≡ memory_written base r v w mem
    unfolding memory_written
    two_written z {q} eq {m''} f =
        pick_hit _ (eq_yes _ 2 (sym ek ∙ z)) (f ∙ ap (λ (x : ℕ). port_written x n base q v w m') ed ∙ ap (λ (x : ℕ). port_written (get_or r 2 0) x base q v w m') en
        ∙ ap (λ (l : List ℕ). port_written (get_or r 2 0) (get_or r 7 0) base l v w m') eq ∙ ap (port_written (get_or r 2 0) (get_or r 7 0) base (second_words r) v w) first_written)

  -- its ports fit as they are read
  pub fits_first : MemoryFits r base → PortFits p d n base
  fits_first f =
      subst (λ (l : List ℕ). PortFits l d n base) (sym ep) (subst (λ (x : ℕ). PortFits (drop 6 r) x n base) (sym ed) (subst (λ (x : ℕ). PortFits (drop 6 r) (get_or r 2 0) x base) (sym en) f.first))

  pub fits_second : MemoryFits r base → k ≡ 2 → {q : List ℕ} → q ≡ second_words r → PortFits q d n base
  fits_second f z {q} eq =
      subst (λ (l : List ℕ). PortFits l d n base) (sym eq) (subst (λ (x : ℕ). PortFits (second_words r) x n base) (sym ed) (subst (λ (x : ℕ). PortFits (second_words r) (get_or r 2 0) x base) (sym en) (f.second (sym ek ∙ z))))

pub second_is : (r : List ℕ) {p : List ℕ} → p ≡ drop 6 r → {n : ℕ} → n ≡ port_length p → {q : List ℕ} → q ≡ drop (6 + n) r → q ≡ second_words r
second_is r ep en eq = eq ∙ ap (λ (k : ℕ). drop (6 + k) r) (en ∙ ap port_length ep)

-- ---- all memories ----

module _ (ws places : List ℕ) (i : ℕ) {a : ℕ} (ea : a ≡ get_or places i 0) {r : List ℕ} (er : r ≡ drop a ws) where
  it_is : r ≡ drop (get_or places i 0) ws
  it_is = er ∙ ap (λ (k : ℕ). drop k ws) ea

  pub fits_it : {base count : ℕ} → base ≡ base_at ws places i → MemoriesFit ws places count → i < count → MemoryFits r base
  fits_it {base} eb f h = subst (λ (l : List ℕ). MemoryFits l base) (sym it_is) (subst (λ (x : ℕ). MemoryFits (drop (get_or places i 0) ws) x) (sym eb) (f.each i h))

  pub base_more : {base x y : ℕ} → base ≡ base_at ws places i → x ≡ get_or r 2 0 → y ≡ get_or r 7 0 → base + x * y ≡ base_at ws places (i + 1)
  base_more {base} {x} {y} eb ex ey =
      let m = sum_more (bits_at ws places) i in
      let z : x * y ≡ bits_at ws places i = ap (λ (k : ℕ). k * y) (ex ∙ ap (λ (l : List ℕ). get_or l 2 0) it_is) ∙ ap (λ (k : ℕ). get_or (drop (get_or places i 0) ws) 2 0 * k) (ey ∙ ap (λ (l : List ℕ). get_or l 7 0) it_is) in
      omega arith

  pub reads_more : (mem v w : List ℕ) {base : ℕ} → base ≡ base_at ws places i → {w' w'' : List ℕ} → w' ≡ memories_read ws mem v places i w → w'' ≡ memory_read mem base r v w' → w'' ≡ memories_read ws mem v places (i + 1) w
  unfolding memories_read
  reads_more mem v w {base} eb {w'} ew e =
      rw add-one (e ∙ ap (λ (x : ℕ). memory_read mem x r v w') eb ∙ ap (λ (l : List ℕ). memory_read mem (base_at ws places i) l v w') it_is ∙ ap (memory_read mem (base_at ws places i) (drop (get_or places i 0) ws) v) ew)

  pub writes_more : (v w mem : List ℕ) {base : ℕ} → base ≡ base_at ws places i → {m' m'' : List ℕ} → m' ≡ memories_written ws v w places i mem → m'' ≡ memory_written base r v w m' → m'' ≡ memories_written ws v w places (i + 1) mem
  unfolding memories_written
  writes_more v w mem {base} eb {m'} em e =
      rw add-one (e ∙ ap (λ (x : ℕ). memory_written x r v w m') eb ∙ ap (λ (l : List ℕ). memory_written (base_at ws places i) l v w m') it_is ∙ ap (memory_written (base_at ws places i) (drop (get_or places i 0) ws) v w) em)

pub reads_none : (ws mem v places w : List ℕ) → w ≡ memories_read ws mem v places 0 w
unfolding memories_read
reads_none ws mem v places w = refl

pub writes_none : (ws v w places mem : List ℕ) → mem ≡ memories_written ws v w places 0 mem
unfolding memories_written
writes_none ws v w places mem = refl

pub reads_all : (ws mem v places w : List ℕ) {count i : ℕ} → i ≤ count → count ≤ i → {w' : List ℕ} → w' ≡ memories_read ws mem v places i w → w' ≡ memories_read ws mem v places count w
reads_all ws mem v places w {count} {i} h l e = let z : i ≡ count = omega arith in e ∙ ap (λ (n : ℕ). memories_read ws mem v places n w) z

pub writes_all : (ws v w places mem : List ℕ) {count i : ℕ} → i ≤ count → count ≤ i → {m' : List ℕ} → m' ≡ memories_written ws v w places i mem → m' ≡ memories_written ws v w places count mem
writes_all ws v w places mem {count} {i} h l e = let z : i ≡ count = omega arith in e ∙ ap (λ (n : ℕ). memories_written ws v w places n mem) z

pub base_room : {r : List ℕ} {base x y : ℕ} → MemoryFits r base → x ≡ get_or r 2 0 → y ≡ get_or r 7 0 → base + x * y ≤ 65536
base_room {r} {base} {x} {y} f ex ey =
    let z : x * y ≡ get_or r 2 0 * get_or r 7 0 = ap (λ (k : ℕ). k * y) ex ∙ ap (λ (k : ℕ). get_or r 2 0 * k) ey in
    let m = f.first.room in
    omega arith

pub base_none : (ws places : List ℕ) → 0 ≡ base_at ws places 0
base_none ws places = sym (sum_none (bits_at ws places))
