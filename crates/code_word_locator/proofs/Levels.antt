-- The ends of the rule functions: from what their calls answered to the rule, at each level.
-- Assumes nothing.
use mathlib.Core.Path.{◌≡◌, ap₂, ◌∙◌}
use mathlib.Core.Logic.{◌≢◌}
use Prim.Native.Nat.{ℕ, ◌≤◌, ◌<◌}
use native.Mathlib.Omega.{arith}
use Rattle.gf16.specs.Field.{product, inverse}
use Rattle.gf16.proofs.Laws.{product_lt}
use Rattle.code_word_laws.specs.Packed.{nibble}
use Rattle.code_word_laws.specs.Corrector.{ThirdMinorZero, MinorsZero, IsLocator, minor_two, triple, minor}
use Rattle.code_word_laws.proofs.Packed.{nibble-lt}
use Rattle.code_word_laws.proofs.Locator.{minor0, minor1, minor2, locator-three, locator-two, locator-one}
use Rattle.code_word_laws.proofs.Correcting.{locator-by}

below : (i a x : ℕ) → x ≡ product i a → x < 16
below i a x e = rw e (product_lt i a)

module _ (s : ℕ) where
  abbrev n1 : ℕ
  n1 = nibble 1 s

  abbrev n2 : ℕ
  n2 = nibble 2 s

  abbrev n3 : ℕ
  n3 = nibble 3 s

  abbrev n4 : ℕ
  n4 = nibble 4 s

  abbrev n5 : ℕ
  n5 = nibble 5 s

  abbrev n6 : ℕ
  n6 = nibble 6 s

  pub locator-three-done : {s1 s2 s3 s4 s5 s6 d m01 m02 m03 m12 m13 m23 a b c i x y z : ℕ}
      → s1 ≡ n1 → s2 ≡ n2 → s3 ≡ n3 → s4 ≡ n4 → s5 ≡ n5 → s6 ≡ n6
      → d ≢ 0 → d ≡ minor n1 n2 n3 n4 n5
      → m01 ≡ minor_two s1 s2 s2 s3 → m02 ≡ minor_two s1 s3 s2 s4 → m03 ≡ minor_two s1 s4 s2 s5
      → m12 ≡ minor_two s2 s3 s3 s4 → m13 ≡ minor_two s2 s4 s3 s5 → m23 ≡ minor_two s3 s4 s4 s5
      → a ≡ triple m13 s3 m03 s4 m01 s6 → b ≡ triple m23 s3 m03 s5 m02 s6 → c ≡ triple m23 s4 m13 s5 m12 s6
      → i ≡ inverse d → x ≡ product i a → y ≡ product i b → z ≡ product i c → IsLocator 3 s x y z s3
  locator-three-done {a = a} {b = b} {c = c} {i = i} {x = x} {y = y} {z = z} e1 e2 e3 e4 e5 e6 nz e01d e01 e02 e03 e12 e13 e23
      ea eb ec ei ex ey ez =
      let fx : x ≡ product (inverse (minor n1 n2 n3 n4 n5)) (minor2 n1 n2 n3 n4 n5 n6) = cc in
      let fy : y ≡ product (inverse (minor n1 n2 n3 n4 n5)) (minor1 n1 n2 n3 n4 n5 n6) = cc in
      let fz : z ≡ product (inverse (minor n1 n2 n3 n4 n5)) (minor0 n1 n2 n3 n4 n5 n6) = cc in
      record {
        first = below i a x ex;
        second = below i b y ey;
        third = below i c z ez;
        start = rw e3 (nibble-lt 3 s);
        locator =
            rw (fx, fy, fz, e3) (locator-by 3 s _ _ _ _ (omega arith) (locator-three n1 n2 n3 n4 n5 n6 (λ q. nz (e01d ∙ q))));
      }

  pub locator-two-done : {t s1 s2 s3 s4 d a b i x y : ℕ} → 2 ≤ t → t ≤ 3 → s1 ≡ n1 → s2 ≡ n2 → s3 ≡ n3 → s4 ≡ n4
      → d ≢ 0 → d ≡ minor_two n1 n2 n2 n3 → ThirdMinorZero t s
      → a ≡ minor_two s1 s3 s2 s4 → b ≡ minor_two s2 s3 s3 s4 → i ≡ inverse d → x ≡ product i a → y ≡ product i b → IsLocator t s x y 0 s3
  locator-two-done {t} {a = a} {b = b} {i = i} {x = x} {y = y} from to e1 e2 e3 e4 nz ed flat ea eb ei ex ey =
      let fx : x ≡ product (inverse (minor_two n1 n2 n2 n3)) (minor_two n1 n3 n2 n4) = cc in
      let fy : y ≡ product (inverse (minor_two n1 n2 n2 n3)) (minor_two n2 n3 n3 n4) = cc in
      record {
        first = below i a x ex;
        second = below i b y ey;
        third = omega arith;
        start = rw e3 (nibble-lt 3 s);
        locator = rw (fx, fy, e3) (locator-by t s _ _ _ _ to (locator-two n1 n2 n3 n4 n5 n6 t from to (λ q. nz (ed ∙ q)) flat));
      }

  pub locator-one-done : {t s1 s2 i x u : ℕ} → 1 ≤ t → t ≤ 3 → s1 ≡ n1 → s2 ≡ n2 → MinorsZero t s → i ≡ inverse s1 → x ≡ product i s2
      → u < 16 → (t ≡ 1 → u ≡ product x s2) → (2 ≤ t → u ≡ n3) → IsLocator t s x 0 0 u
  locator-one-done {t} {s2 = s2} {i = i} {x = x} {u = u} from to e1 e2 zero ei ex l one more =
      let fx : x ≡ product (inverse n1) n2 = cc in
      record {
        first = below i s2 x ex;
        second = omega arith;
        third = omega arith;
        start = l;
        locator =
            rw fx
            (locator-by t s _ _ _ _ to
            (locator-one n1 n2 n3 n4 n5 n6 t u from to (nibble-lt 1 s) zero.second zero.third (λ q. one q ∙ ap₂ product fx e2) more));
      }
