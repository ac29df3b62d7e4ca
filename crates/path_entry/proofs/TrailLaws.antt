-- Trails as replies: nothing found, one more edit written, a wider bound. Assumes nothing.
use Prim.Native.Nat.{ℕ, ◌+◌, ◌≤◌, ◌<◌}
use mathlib.Core.Path.{◌≡◌, refl, sym, ap, ap₂, ◌∙◌}
use mathlib.Core.Bool.{Bool, true, false}
use mathlib.Core.List.{List, [], ◌∷◌, ◌++◌}
use native.Mathlib.Omega.{arith}
use lib.ListN.{length, take, set}
use lib.Seq.{take-set-le, length-take-le}
use Rattle.basics.specs.Edits.{Edit, edits}
use Rattle.basics.proofs.Maps.{take-written}
use Rattle.rules.specs.Board.{Board}
use Rattle.rules.specs.Roster.{Roster, after}
use Rattle.search_rules.specs.Blockers.{is_free}
use Rattle.search_rules.specs.Search.{Reply, miss, hit, edit, closed, closes}
use Rattle.path_steps.specs.Lists.{front, Standing}
use Rattle.path_entry.specs.declared.Path.{Path}
use Rattle.path_entry.specs.declared.Trail.{Trail}
use Rattle.path_entry.specs.declared.Trail.TheVariants as trail
use Rattle.path_entry.specs.Trails.{reply_in, Between, Roomy, Told, Closed}

-- nothing was found, and nothing that counts was written
pub told_missed : (a : Reply) (n listed bound : ℕ) (rs vs rs' vs' : List ℕ) → a ≡ miss n → take listed rs' ≡ take listed rs → take listed vs' ≡ take listed vs → Told a listed bound rs vs rs' vs' (trail.Missed n)
unfolding reply_in Between
told_missed a n listed bound rs vs rs' vs' e x y = record { reply = sym e; between = tt; rows_kept = x; values_kept = y }

-- what a trail that missed says of the reply
pub missed_is : (a : Reply) (n listed bound : ℕ) (rs vs rs' vs' : List ℕ) → Told a listed bound rs vs rs' vs' (trail.Missed n) → a ≡ miss n
unfolding reply_in
missed_is a n listed bound rs vs rs' vs' w = sym w.reply

-- and one that found a list
pub found-is : (a : Reply) (p : Path) (listed bound : ℕ) (rs vs rs' vs' : List ℕ) → Told a listed bound rs vs rs' vs' (trail.Found p) → a ≡ hit p.asks (front p.length rs' vs')
unfolding reply_in
found-is a p listed bound rs vs rs' vs' w = sym w.reply

pub found_between : (least most : ℕ) (t : Trail) (p : Path) → t ≡ trail.Found p → Between least most t → (least ≤ p.length) × (p.length ≤ most)
unfolding Between
found_between least most t p f w = rw f at w

pub between_within : (least least' most most' : ℕ) → least' ≤ least → most ≤ most' → (t : Trail) → Between least most t → Between least' most' t
unfolding Between
between_within least least' most most' l m (trail.Missed n) w = tt
between_within least least' most most' l m (trail.Found p) w = (omega (arith, w.0), omega (arith, w.1))

pub told_wider : (a : Reply) (listed bound bound' : ℕ) (rs vs rs' vs' : List ℕ) (t : Trail) → bound ≤ bound' → Told a listed bound rs vs rs' vs' t → Told a listed bound' rs vs rs' vs' t
told_wider a listed bound bound' rs vs rs' vs' t l w = record {
  reply = w.reply;
  between = between_within listed listed bound bound' (omega arith) l t w.between;
  rows_kept = w.rows_kept;
  values_kept = w.values_kept;
}

-- ---- one more edit

edits_snoc : (xs ys : List ℕ) (r v : ℕ) → length xs ≡ length ys → edits (xs ++ (r ∷ [])) (ys ++ (v ∷ [])) ≡ edits xs ys ++ (edit r v ∷ [])
unfolding edits
edits_snoc [] [] r v e = refl
edits_snoc [] (y ∷ ys) r v e = absurd (omega arith)
edits_snoc (x ∷ xs) [] r v e = absurd (omega arith)
edits_snoc (x ∷ xs) (y ∷ ys) r v e = ap (λ (l : List Edit). record { row = x; value = y } ∷ l) (edits_snoc xs ys r v (omega arith))

fronts_as_long : (n : ℕ) (rs vs : List ℕ) → n ≤ length rs → n ≤ length vs → length (take n rs) ≡ length (take n vs)
fronts_as_long n rs vs l m = length-take-le n rs l ∙ sym (length-take-le n vs m)

pub roomy_fronts : (n : ℕ) (rs vs : List ℕ) → n ≤ 136 → Roomy 0 rs vs → length (take n rs) ≡ length (take n vs)
roomy_fronts n rs vs l w = fronts_as_long n rs vs (omega (arith, w.rows_long)) (omega (arith, w.values_long))

pub front-more : (rs vs : List ℕ) (n r v : ℕ) → n < length rs → n < length vs → front (n + 1) (set rs n r) (set vs n v) ≡ front n rs vs ++ (edit r v ∷ [])
front-more rs vs n r v l m =
    ap₂ edits (take-written rs n r l) (take-written vs n v m)
    ∙ edits_snoc (take n rs) (take n vs) r v (fronts_as_long n rs vs (omega arith) (omega arith))

pub told-taken : (L : List Edit) (asks listed bound : ℕ) (rs vs rs' vs' : List ℕ) (end r v : ℕ) → Standing listed rs vs rs' vs' end L → end < length rs' → end < length vs' → end + 1 ≤ bound
    → Told (hit asks (L ++ (edit r v ∷ []))) listed bound rs vs (set rs' end r) (set vs' end v) (trail.Found (record { asks = asks; length = end + 1 }))
unfolding reply_in Between
told-taken L asks listed bound rs vs rs' vs' end r v w l m b = record {
  reply = ap (hit asks) (front-more rs' vs' end r v l m ∙ ap (λ (xs : List Edit). xs ++ (edit r v ∷ [])) w.list);
  between = (omega (arith, w.longer), b);
  rows_kept = take-set-le listed rs' end r w.longer ∙ w.rows_kept;
  values_kept = take-set-le listed vs' end v w.longer ∙ w.values_kept;
}

-- ---- closing a path

module _ (B : Board) (h : Roster) (r v : ℕ) (rs vs : List ℕ) (tried : Trail) where
  pub closed_missed : (n : ℕ) → tried ≡ trail.Missed n → Closed B h r v rs vs rs vs tried tried
  unfolding reply_in Between closed closes
  closed_missed n f = rw f (record { reply = refl; between = λ a b z. tt; rows_kept = λ k b z. refl; values_kept = λ k b z. refl })

  module _ (p : Path) (f : tried ≡ trail.Found p) (b : Bool) (e : b ≡ is_free B (after h (front p.length rs vs)) r v) where
    pub closed-blocked : b ≡ false → Closed B h r v rs vs rs vs tried (trail.Missed p.asks)
    unfolding reply_in Between closed closes
    closed-blocked n = rw f (record { reply = rw (sym e ∙ n); between = λ a b z. tt; rows_kept = λ k b z. refl; values_kept = λ k b z. refl })

    pub closed-taken : b ≡ true → p.length < length rs → p.length < length vs
        → Closed B h r v rs vs (set rs p.length r) (set vs p.length v) tried (trail.Found (record { asks = p.asks; length = p.length + 1 }))
    unfolding reply_in Between closed closes
    closed-taken t l m = rw f (record {
      reply = rw (sym e ∙ t) (ap (hit p.asks) (front-more rs vs p.length r v l m));
      between = λ a b z. (omega (arith, z.0), omega (arith, z.1));
      rows_kept = λ k b z. take-set-le k rs p.length r z.0;
      values_kept = λ k b z. take-set-le k vs p.length v z.0;
    })
