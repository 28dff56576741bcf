-- Each kind of list record is found again by the image's reader. Assumes nothing.
use Rattle.std.specs.Prelude.{◌≡◌, refl, List, [], ◌∷◌, ◌++◌, ℕ, ◌<◌, length}
use Rattle.std.proofs.Common.{sym, append_assoc, arith, length-append, drop_at}
use Rattle.spec_tests.specs.Rules.{◌≡?◌, pick}
use Rattle.spec_rules.specs.NetlistImage.{record_length, port_length, port_lists}
use Rattle.net_view.specs.View.{Formed}

pub formed_port : (s w : ℕ) (ns : List ℕ) → length ns ≡ w → Formed (0 ∷ s ∷ w ∷ ns)
unfolding record_length pick ◌≡?◌
formed_port s w ns e = record { some = omega arith; long = λ rest. omega arith; kind = omega arith }

pub formed_register : (r : List ℕ) → length r ≡ 12 → Formed (1 ∷ r)
unfolding record_length pick ◌≡?◌
formed_register r e = record { some = omega arith; long = λ rest. omega arith; kind = omega arith }

pub formed_arithmetic : (op : ℕ) (lhs rhs : List ℕ) (c : ℕ) (ns : List ℕ) → length rhs ≡ length lhs → length ns ≡ length lhs
    → Formed (3 ∷ op ∷ length lhs ∷ c ∷ (lhs ++ rhs) ++ ns)
unfolding record_length pick ◌≡?◌
formed_arithmetic op lhs rhs c ns e f = record {
  some = omega arith;
  long = λ rest. simp length-append (omega arith);
  kind = omega arith;
}

pub formed_comparison : (op : ℕ) (lhs rhs : List ℕ) (o : ℕ) → length rhs ≡ length lhs → Formed (4 ∷ op ∷ length lhs ∷ (lhs ++ rhs) ++ (o ∷ []))
unfolding record_length pick ◌≡?◌
formed_comparison op lhs rhs o e = record {
  some = omega arith;
  long = λ rest. simp length-append (omega arith);
  kind = omega arith;
}

-- a memory port's words have the length that its four widths say
pub record Ported (p : List ℕ) : Type 0 where
  pub four : 3 < length p
  pub long : length p ≡ port_length p

ported_append : (p t : List ℕ) → Ported p → port_length (p ++ t) ≡ length p
unfolding port_length port_lists
ported_append (a ∷ b ∷ c ∷ d ∷ p) t h = sym h.long
ported_append (a ∷ b ∷ c ∷ []) t h = absurd (omega (arith, h.four))
ported_append (a ∷ b ∷ []) t h = absurd (omega (arith, h.four))
ported_append (a ∷ []) t h = absurd (omega (arith, h.four))
ported_append [] t h = absurd (omega (arith, h.four))

pub formed_memory : (k d s y : ℕ) (p : List ℕ) → Ported p → Formed (2 ∷ k ∷ d ∷ s ∷ y ∷ 1 ∷ p)
unfolding record_length pick ◌≡?◌
formed_memory k d s y p h = record { some = omega arith; long = λ rest. rw (ported_append p rest h) (omega arith); kind = omega arith }

pub formed_memory₂ : (k d s y : ℕ) (p q : List ℕ) → Ported p → Ported q → Formed (2 ∷ k ∷ d ∷ s ∷ y ∷ 2 ∷ (p ++ q))
unfolding record_length pick ◌≡?◌
formed_memory₂ k d s y p q h g = record {
  some = omega arith;
  long = λ rest. rw (append_assoc p q rest, ported_append p (q ++ rest) h, drop_at p (q ++ rest) (length p) refl, ported_append q rest g, length-append p q) (omega arith);
  kind = omega arith;
}
