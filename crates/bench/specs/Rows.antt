-- The rows of the bench (docs/RULES.md), each computed by the checker from the image's bytes. K3, K4 and K10 stand as the bench writes
-- them, where constant operands fold (docs/DIFFERENCES.md, 1), with the number that their sum is; and primed, with operands that
-- have those values but no constant nets. Assumes nothing.
use Rattle.std.specs.Prelude.{ℕ, ◌+◌, ◌*◌, List, [], ◌∷◌, ◌≡◌, refl}
use Rattle.bench.specs.Images as Images
use Rattle.bench.specs.Row.{Row, Numbers, Nets, AdderWidths, Carries, Outputs, ResetValue}
use Rattle.bench.specs.Carried.{seen, said}
use Rattle.bench.specs.Computing.{computing}

abbrev pub accepted : List ℕ
accepted = 0 ∷ 0 ∷ 0 ∷ []

-- a netlist's header: nets, list words used, the limit N, then how many ports, registers, memories, arithmetic and comparison records
abbrev pub counts : ℕ → ℕ → ℕ → ℕ → ℕ → ℕ → ℕ → ℕ → List ℕ
counts nets used N ports registers memories arithmetic comparisons =
    1 ∷ nets ∷ 16 ∷ used ∷ (16 + 6 * N) ∷ ports ∷ registers ∷ memories ∷ arithmetic ∷ comparisons ∷ 0 ∷ 0 ∷ 0 ∷ 0 ∷ 0 ∷ 0 ∷ []

-- after a refusal
abbrev pub blank : List ℕ
blank = 0 ∷ 0 ∷ 0 ∷ 0 ∷ 0 ∷ 0 ∷ 0 ∷ 0 ∷ 0 ∷ 0 ∷ 0 ∷ 0 ∷ 0 ∷ 0 ∷ 0 ∷ 0 ∷ []

abbrev pub k1 : Row
k1 = record {
  name = "K1";
  text = "no records: accepted, 0 nets";
  image = Images.k01;
  limits = (1, 0);
  asked = Nets;
  document = 0 ∷ [];
  found = 0 ∷ [];
  answer = accepted;
  header = counts 0 0 1 0 0 0 0 0;
}

pub k1_seen : seen k1 ≡ said k1
unfolding computing
k1_seen = refl

abbrev pub k2 : Row
k2 = record {
  name = "K2";
  text = "8-bit Add of two zero-extended 4-bit words: cell width 5";
  image = Images.k02;
  limits = (22, 44);
  asked = AdderWidths;
  document = 5 ∷ [];
  found = 5 ∷ [];
  answer = accepted;
  header = counts 22 44 22 3 0 0 1 0;
}

abbrev pub k3 : Row
k3 = record {
  name = "K3";
  text = "8-bit 0 + 0: cell width 1";
  image = Images.k03;
  limits = (9, 11);
  asked = AdderWidths;
  document = 1 ∷ [];
  found = [];
  answer = accepted;
  header = counts 9 11 9 1 0 0 0 0;
}

pub k3_seen : seen k3 ≡ said k3
unfolding computing
k3_seen = refl

abbrev pub k3_sum : Row
k3_sum = record {
  name = "K3";
  text = "8-bit 0 + 0";
  image = Images.k03;
  limits = (9, 11);
  asked = (Outputs 8 (0 ∷ []));
  document = 0 ∷ [];
  found = 0 ∷ [];
  answer = accepted;
  header = counts 9 11 9 1 0 0 0 0;
}

pub k3_sum_seen : seen k3_sum ≡ said k3_sum
unfolding computing
k3_sum_seen = refl

abbrev pub k3' : Row
k3' = record {
  name = "K3'";
  text = "8-bit 0 + 0: cell width 1";
  image = Images.k03prime;
  limits = (31, 77);
  asked = AdderWidths;
  document = 1 ∷ [];
  found = 1 ∷ [];
  answer = accepted;
  header = counts 31 77 31 2 0 0 2 0;
}

pub k3'_seen : seen k3' ≡ said k3'
unfolding computing
k3'_seen = refl

abbrev pub k4 : Row
k4 = record {
  name = "K4";
  text = "8-bit 254 + 1: width 8, not narrowed";
  image = Images.k04;
  limits = (10, 11);
  asked = AdderWidths;
  document = 8 ∷ [];
  found = [];
  answer = accepted;
  header = counts 10 11 10 1 0 0 0 0;
}

pub k4_seen : seen k4 ≡ said k4
unfolding computing
k4_seen = refl

abbrev pub k4_sum : Row
k4_sum = record {
  name = "K4";
  text = "8-bit 254 + 1";
  image = Images.k04;
  limits = (10, 11);
  asked = (Outputs 8 (0 ∷ []));
  document = 255 ∷ [];
  found = 255 ∷ [];
  answer = accepted;
  header = counts 10 11 10 1 0 0 0 0;
}

pub k4_sum_seen : seen k4_sum ≡ said k4_sum
unfolding computing
k4_sum_seen = refl

abbrev pub k4' : Row
k4' = record {
  name = "K4'";
  text = "8-bit 254 + 1: width 8, not narrowed";
  image = Images.k04prime;
  limits = (38, 98);
  asked = AdderWidths;
  document = 8 ∷ [];
  found = 8 ∷ [];
  answer = accepted;
  header = counts 38 98 38 2 0 0 2 0;
}

pub k4'_seen : seen k4' ≡ said k4'
unfolding computing
k4'_seen = refl

abbrev pub k5 : Row
k5 = record {
  name = "K5";
  text = "64-bit Add of zero-extended 32-bit words: 33";
  image = Images.k05;
  limits = (162, 240);
  asked = AdderWidths;
  document = 33 ∷ [];
  found = 33 ∷ [];
  answer = accepted;
  header = counts 162 240 162 3 0 0 1 0;
}

pub k5_seen : seen k5 ≡ said k5
unfolding computing
k5_seen = refl

abbrev pub k6 : Row
k6 = record {
  name = "K6";
  text = "at 65 bits: not narrowed";
  image = Images.k06;
  limits = (195, 337);
  asked = AdderWidths;
  document = 65 ∷ [];
  found = 65 ∷ [];
  answer = accepted;
  header = counts 195 337 195 3 0 0 1 0;
}

pub k6_seen : seen k6 ≡ said k6
unfolding computing
k6_seen = refl

abbrev pub k7 : Row
k7 = record {
  name = "K7";
  text = "8-bit signed 128 below 127: 1; unsigned: 0";
  image = Images.k07;
  limits = (6, 48);
  asked = (Outputs 1 (0 ∷ 1 ∷ []));
  document = 1 ∷ 0 ∷ [];
  found = 1 ∷ 0 ∷ [];
  answer = accepted;
  header = counts 6 48 6 2 0 0 0 2;
}

pub k7_seen : seen k7 ≡ said k7
unfolding computing
k7_seen = refl

abbrev pub k8 : Row
k8 = record {
  name = "K8";
  text = "8-bit arithmetic right shift of 128 by 8: 255; by 7: 255; by 6: 254";
  image = Images.k08;
  limits = (26, 33);
  asked = (Outputs 8 (0 ∷ 1 ∷ 2 ∷ []));
  document = 255 ∷ 255 ∷ 254 ∷ [];
  found = 255 ∷ 255 ∷ 254 ∷ [];
  answer = accepted;
  header = counts 26 33 26 3 0 0 0 0;
}

pub k8_seen : seen k8 ≡ said k8
unfolding computing
k8_seen = refl

abbrev pub k9 : Row
k9 = record {
  name = "K9";
  text = "s (2 bits) = {s[0], a}, s an output: 7, signal s, bit 0";
  image = Images.k09;
  limits = (16, 16);
  asked = Numbers;
  document = 7 ∷ 1 ∷ 0 ∷ [];
  found = 7 ∷ 1 ∷ 0 ∷ [];
  answer = 7 ∷ 1 ∷ 0 ∷ [];
  header = blank;
}

pub k9_seen : seen k9 ≡ said k9
unfolding computing
k9_seen = refl

abbrev pub k10 : Row
k10 = record {
  name = "K10";
  text = "reset value 1 + 1 on 8 bits: 8, bit 0";
  image = Images.k10;
  limits = (20, 123);
  asked = Numbers;
  document = 8 ∷ 0 ∷ 0 ∷ [];
  found = 0 ∷ 0 ∷ 0 ∷ [];
  answer = accepted;
  header = counts 20 123 20 3 8 0 0 0;
}

pub k10_seen : seen k10 ≡ said k10
unfolding computing
k10_seen = refl

abbrev pub k10_sum : Row
k10_sum = record {
  name = "K10";
  text = "reset value 1 + 1 on 8 bits";
  image = Images.k10;
  limits = (20, 123);
  asked = ResetValue;
  document = 2 ∷ [];
  found = 2 ∷ [];
  answer = accepted;
  header = counts 20 123 20 3 8 0 0 0;
}

pub k10_sum_seen : seen k10_sum ≡ said k10_sum
unfolding computing
k10_sum_seen = refl

abbrev pub k10' : Row
k10' = record {
  name = "K10'";
  text = "reset value 1 + 1 on 8 bits: 8, bit 0";
  image = Images.k10prime;
  limits = (64, 128);
  asked = Numbers;
  document = 8 ∷ 0 ∷ 0 ∷ [];
  found = 8 ∷ 0 ∷ 0 ∷ [];
  answer = 8 ∷ 0 ∷ 0 ∷ [];
  header = blank;
}

pub k10'_seen : seen k10' ≡ said k10'
unfolding computing
k10'_seen = refl

abbrev pub k11 : Row
k11 = record {
  name = "K11";
  text = "(a + b) + {0, c}: one cell with carry";
  image = Images.k11;
  limits = (9, 29);
  asked = Carries;
  document = 1 ∷ [];
  found = 1 ∷ [];
  answer = accepted;
  header = counts 9 29 9 4 0 0 1 0;
}

pub k11_seen : seen k11 ≡ said k11
unfolding computing
k11_seen = refl

abbrev pub k12 : Row
k12 = record {
  name = "K12";
  text = "(a + b) + {c, 0}: two cells";
  image = Images.k12;
  limits = (12, 39);
  asked = Carries;
  document = 0 ∷ 0 ∷ [];
  found = 0 ∷ 0 ∷ [];
  answer = accepted;
  header = counts 12 39 12 4 0 0 2 0;
}

pub k12_seen : seen k12 ≡ said k12
unfolding computing
k12_seen = refl
