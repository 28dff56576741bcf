-- What is proved of specs/Run: A program logic for the builder's calls: an outcome is a refusal for want of room, or an answer in a later netlist. Assumes nothing.
use Rattle.std.specs.Prelude.{◌≡◌, refl, Bool, List, [], ◌∷◌, map, ℕ, ◌≤◌, ◌<◌, length}
use Rattle.std.proofs.Common.{sym, ap, ◌∙◌, arith, length-append}
use Rattle.std.proofs.lemmas.List.{length-map}
use Rattle.spec_rules.specs.Step.{Setting, Contents}
use Rattle.spec_model.specs.Words.{Netlist}
use Rattle.spec_model.specs.Builder.{done, and_then, Made}
use Rattle.word_laws.specs.Widths.{AllBelow}
use Rattle.law_nets.specs.Meaning.{net_value}
use Rattle.law_nets.specs.Sound.{count, Sound, Later, Cells, At, Stands, StandsAll}
use Rattle.law_nets.specs.Run.{Built, Limit, Run, below_more, cells_refl, cells_trans, grew_refl, grew_trans, meets_bind, meets_map}

pub later_refl : {l : Netlist} → Sound l → Later l l
later_refl {l} s = record { grew = grew_refl l; sound = s }

pub later_trans : {l l' l'' : Netlist} → Later l l' → Later l' l'' → Later l l''
later_trans a b = record { grew = grew_trans a.grew b.grew; sound = b.sound }

pub later_count : {l l' : Netlist} → Later l l' → count l ≤ count l'
later_count {l} {l'} a = omega (arith, ap length a.grew.nodes, length-append a.grew.added l.nodes)

-- what stands, stands later
pub stands_later : {l l' : Netlist} {k : ℕ} {f : At Bool} → Later l l' → Stands l k f → Stands l' k f
stands_later a v = record { there = omega (arith, later_count a, v.there); is = λ h b s c. v.is h (later_trans a b) s c }

pub all_later : {l l' : Netlist} {ks : List ℕ} {w : At (List Bool)} → Later l l' → StandsAll l ks w → StandsAll l' ks w
all_later {ks} a v = record { there = below_more _ _ ks (later_count a) v.there; are = λ h b s c. v.are h (later_trans a b) s c }

-- a net has its own value
pub stands_self : {l : Netlist} {k : ℕ} → k < count l → Stands l k (λ h s c. net_value h s c k)
stands_self t = record { there = t; is = λ h b s c. refl }

pub all_self : {l : Netlist} (ks : List ℕ) → AllBelow (count l) ks → StandsAll l ks (λ h s c. map (net_value h s c) ks)
all_self ks t = record { there = t; are = λ h b s c. refl }

pub stands_as : {l : Netlist} {k : ℕ} {f g : At Bool} → Stands l k f
    → ((h : Netlist) → Later l h → (s : Setting) (c : Contents) → f h s c ≡ g h s c) → Stands l k g
stands_as v e = record { there = v.there; is = λ h b s c. v.is h b s c ∙ e h b s c }

pub all_as : {l : Netlist} {ks : List ℕ} {w v : At (List Bool)} → StandsAll l ks w
    → ((h : Netlist) → Later l h → (s : Setting) (c : Contents) → w h s c ≡ v h s c) → StandsAll l ks v
all_as a e = record { there = a.there; are = λ h b s c. a.are h b s c ∙ e h b s c }

pub all_nil : {l : Netlist} → StandsAll l [] (λ h s c. [])
all_nil = record { there = tt; are = λ h b s c. refl }

pub all_cons : {l : Netlist} {k : ℕ} {f : At Bool} {ks : List ℕ} {w : At (List Bool)} → Stands l k f → StandsAll l ks w
    → StandsAll l (k ∷ ks) (λ h s c. f h s c ∷ w h s c)
all_cons v a = record { there = (v.there, a.there); are = λ h b s c. rw (v.is h b s c, a.are h b s c) }

-- a word has as many bits as it has nets
pub all_length : {l : Netlist} {ks : List ℕ} {w : At (List Bool)} → StandsAll l ks w → Sound l → (s : Setting) (c : Contents) → length ks ≡ length (w l s c)
all_length {l} {ks} a q s c = sym (length-map ks (net_value l s c)) ∙ ap length (a.are l (later_refl q) s c)

pub run_done : {A : Type 0} {l l' : Netlist} {P : A → Netlist → Type 0} {a : A} → Later l l' → Cells l l' → P a l' → Run l P (done (a, l'))
run_done b c p = record { run = record { later = b; cells = c; post = p } }

-- nothing is made
pub run_here : {A : Type 0} {l : Netlist} {P : A → Netlist → Type 0} {a : A} → Sound l → P a l → Run l P (done (a, l))
run_here q p = run_done (later_refl q) cells_refl p

pub run_bind : {A B : Type 0} {l : Netlist} {P : A → Netlist → Type 0} {Q : B → Netlist → Type 0} {o : Made A} (k : A × Netlist → Made B) → Run l P o
    → ((a : A) (l' : Netlist) → Later l l' → P a l' → Run l' Q (k (a, l'))) → Run l Q (and_then o k)
run_bind {l} {P} {Q} {o} k r f = record {
  run = meets_bind Limit (Built l P) (Built l Q) o k r.run (λ x p.
      meets_map Limit Limit (Built x.1 Q) (Built l Q) (k x) (f x.0 x.1 p.later p.post).run (λ n a b h. h)
      (λ y h. record { later = later_trans p.later h.later; cells = cells_trans p.cells h.cells; post = h.post }));
}

pub run_map : {A : Type 0} {l : Netlist} {P Q : A → Netlist → Type 0} {o : Made A} → Run l P o
    → ((a : A) (l' : Netlist) → Later l l' → P a l' → Q a l') → Run l Q o
run_map {l} {P} {Q} {o} r f = record {
  run = meets_map Limit Limit (Built l P) (Built l Q) o r.run (λ n a b h. h)
      (λ x h. record { later = h.later; cells = h.cells; post = f x.0 x.1 h.later h.post });
}
