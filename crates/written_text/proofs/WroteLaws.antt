-- Pieces of text, written one behind the other. Assumes nothing.
use Prim.Native.Nat.{ℕ}
use mathlib.Core.Path.{◌≡◌, sym, ap, ◌∙◌}
use mathlib.Core.List.{List, [], ◌++◌}
use native.Mathlib.Omega.{arith}
use lib.ListN.{length, length-append}
use lib.Seq.{length-sets}
use Rattle.basics.proofs.Maps.{sets_append}
use Rattle.outputs.proofs.Writing.{Writing, ended}
use Rattle.written_text.specs.Wrote.{Wrote}

-- two texts, the second right behind the first
pub joined : (s t u : List ℕ) (a b c : ℕ) (xs ys : List ℕ) → Wrote s a xs t b → Wrote t b ys u c → Wrote s a (xs ++ ys) u c
joined s t u a b c xs ys p q = record {
  place = omega (arith, p.place, q.place, length-append xs ys);
  bytes = q.bytes ∙ rw (p.bytes, p.place) (sym (sets_append s a xs ys));
}

-- the length of what was written on stays
pub as_long : (s t : List ℕ) (a b : ℕ) (xs : List ℕ) → Wrote s a xs t b → length t ≡ length s
as_long s t a b xs w = ap length w.bytes ∙ length-sets s a xs

pub called_otherwise : (s t : List ℕ) (a b : ℕ) (xs ys : List ℕ) → xs ≡ ys → Wrote s a xs t b → Wrote s a ys t b
called_otherwise s t a b xs ys e w = rw (← e) w

-- what `Writing` says at its end
pub written : (s : List ℕ) (a : ℕ) (xs t : List ℕ) (b : ℕ) (ys : List ℕ) → Writing s a xs t b ys → xs ≡ [] → Wrote t b ys s a
written s a xs t b ys w e = let (p, q) = ended s a xs t b ys w e in record { place = p; bytes = q }
