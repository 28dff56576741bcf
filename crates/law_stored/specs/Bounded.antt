-- An accepted image decodes to a module within document 01's limits. Assumes nothing.
use Rattle.std.specs.Prelude.{ℕ, ◌+◌, ◌≤◌, ◌<◌, ◌≡◌, List}
use Rattle.std.proofs.Common.{add-zero, arith, ◌∙◌}
use Rattle.std.proofs.Math.Decide.{dec_lt}
use Rattle.std.proofs.Math.Path.{sym, ap, subst}
use Rattle.std.proofs.Math.ListN.{get_or-eq_default}
use Rattle.spec_rtl.specs.Rtl as R
use Rattle.spec_rules.specs.Image as image
use Rattle.spec_rules.specs.Image.{decode, count_at_of, field, first_port, has_second, second_port}
use Rattle.spec_model.specs.Lowering.{signal_width}
use Rattle.check_memories.specs.Good as memories
use Rattle.check_image.specs.Accepted.{Accepted}
use Rattle.law_accepted.specs.Decode.{lengths}
use Rattle.law_module.specs.Records.{memory_at_law, signal_width_law, expr_width_law}
use Rattle.law_module.proofs.Records.{second_at}
use Rattle.law_listed_made.specs.Place.{PortBounds, MemoryBounds, Bounds}

module _ (s : List ℕ) (g : Accepted s) where
  port_bounds : (k f w : ℕ) → memories.GoodPort s k f w → PortBounds (decode s) (image.port_of (λ i. field s 5 k (f + i)))
  unfolding image.port_of
  port_bounds k f w p = record {
    read = rw (add-zero f, expr_width_law s (field s 5 k f) p.read_address_law.there) p.read_address_law.most;
    write = rw (expr_width_law s (field s 5 k (f + 4)) p.write_address_law.there) p.write_address_law.most;
    wide = expr_width_law s _ p.write_data_law.there ∙ p.write_data_law.width ∙ sym (signal_width_law s _ p.read_there ∙ p.read_width);
  }

  second : (k : ℕ) → k < count_at_of s 5 → (field s 5 k has_second ≡ 0 → ⊥) → memories.GoodTwo s k (image.signal_width s (field s 5 k (first_port + 1)))
  second k h n = let f = (g.memories k h).rest.second_port_law in f.some (omega (arith, f.known))

  port_wide : (k f w : ℕ) → memories.GoodPort s k f w → signal_width (decode s) (image.port_of (λ i. field s 5 k (f + i))).read_data ≡ w
  unfolding image.port_of
  port_wide k f w p = signal_width_law s _ p.read_there ∙ p.read_width

  memory_bounds : (k : ℕ) → k < count_at_of s 5 → MemoryBounds (decode s) (image.memory_at s k)
  unfolding image.memory_at
  memory_bounds k h =
      let r = (g.memories k h).rest in
      record {
        deep = r.depth_least;
        depth = r.depth_most;
        style = r.style;
        first = port_bounds k first_port _ r.first_port_law;
        second = λ q e. let z = second_at s k q e in subst (PortBounds (decode s)) z.is (port_bounds k second_port _ (second k h z.there).port);
        same = λ q e. let z = second_at s k q e in
            ap (λ (y : R.Port). signal_width (decode s) y.read_data) (sym z.is) ∙ port_wide k second_port _ (second k h z.there).port ∙ sym (port_wide k first_port _ r.first_port_law);
      }

  widths : (p : ℕ) → signal_width (decode s) p ≤ 1024
  widths p = go (dec_lt p (count_at_of s 0))
    where
      go : Dec (p < count_at_of s 0) → signal_width (decode s) p ≤ 1024
      go (yes h) = rw (signal_width_law s p h) (g.signals p h).width.1
      go (no h) =
          let n = (lengths s).signals in
          let e : signal_width (decode s) p ≡ 0 = ap (λ (x : R.Sig). x.width) (get_or-eq_default (decode s).signals (record { width = 0; dir = R.Internal }) {n = p} (omega arith)) in
          omega arith

  pub bounded : Bounds (decode s)
  bounded =
      let n = lengths s in
      let c = g.most in
      record {
        signals = (let a = n.signals in let b = c.signals in omega arith);
        widths = widths;
        registers = (let a = n.registers in let b = c.registers in omega arith);
        memories = (let a = n.memories in let b = c.memories in omega arith);
        exprs = λ e h. let l = rw n.exprs at h in rw (expr_width_law s e l) (g.exprs e l).most;
        memory = λ k x e. let f = memory_at_law s k x e in subst (MemoryBounds (decode s)) f.is (memory_bounds k f.there);
      }
