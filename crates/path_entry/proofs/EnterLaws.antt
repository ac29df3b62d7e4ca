-- What trying a row comes to before its blocker is asked to make way: from the prospect that the index gives. Assumes nothing.
use Prim.Native.Nat.{ℕ, zero, suc, ◌+◌, ◌≤◌}
use mathlib.Core.Path.{◌≡◌, refl, sym, ap, ◌∙◌}
use mathlib.Core.Bool.{Bool, true, false}
use mathlib.Core.List.{List, [], ◌∷◌, ◌++◌}
use Rattle.std.specs.Prelude.{Option, None, Some}
use Rattle.std.proofs.lemmas.Option.{none-some}
use native.Mathlib.Omega.{arith}
use lib.ListN.{length, take}
use lib.Seq.{length-take-le}
use Rattle.basics.specs.Edits.{Edit}
use Rattle.basics.proofs.Edits.{length-edits}
use Rattle.assignment_tables.specs.declared.Shape.{Shape}
use Rattle.assignment_tables.specs.Layout.{Marked}
use Rattle.assignment_tables.specs.Tables.{board, legal_at}
use Rattle.basics.proofs.Bools.{either, clash}
use Rattle.rules.specs.Board.{Board}
use Rattle.rules.specs.Roster.{Roster}
use Rattle.search_rules.specs.Blockers.{is_free, first_required}
use Rattle.search_rules.specs.Search.{Terms, Reply, miss, hit, edit, stops, displaced, try_row}
use Rattle.search_rules.specs.Lifted.{bare, Lifted, Plain}
use Rattle.search_rules.proofs.Lifting.{lifted-more, lifted_few}
use Rattle.search_rules.proofs.Stepping.{try_stops, try_illegal, try_free, try_flat, try_visited, try_alone}
use Rattle.path_steps.specs.declared.Prospect.{Prospect}
use Rattle.path_steps.specs.declared.Prospect.TheVariants as prospect
use Rattle.path_steps.specs.Prospects.{blocked_by, prospect_of}
use Rattle.path_steps.specs.Lists.{front, Standing}
use Rattle.path_steps.proofs.PlainLaws.{board_plain}
use Rattle.path_entry.specs.declared.Trail.{Trail}
use Rattle.path_entry.specs.declared.Trail.TheVariants as trail
use Rattle.path_entry.specs.declared.Entered.{Entered}
use Rattle.path_entry.specs.declared.Entered.TheVariants as entered
use Rattle.path_entry.specs.declared.Stuck.{Stuck}
use Rattle.path_entry.specs.Trails.{Roomy, Told, Blocked, Settled, EnteredAs}
use Rattle.path_entry.proofs.TrailLaws.{told_missed}

-- ---- what a prospect says

module _ (B : Board) (on : Bool) (h : Roster) (r v : ℕ) where
  abbrev Free : Bool
  Free = is_free B (bare B on h) r v

  abbrev First : Option ℕ
  First = first_required B (bare B on h) r v

  -- the value is illegal, or only optional rows block
  pub fails_cases : {P : Type 0} → prospect.Fails ≡ prospect_of B on h r v → (B.legal r v ≡ false → P) → (B.legal r v ≡ true → Free ≡ false → First ≡ None → P) → P
  unfolding prospect_of blocked_by
  fails_cases {P} e f g = either (B.legal r v) (λ t. either Free (λ y. no_way (rw (t, y) at e)) (λ n. g t n (alone First (rw (t, n) at e)))) f
    where
      no_way : prospect.Fails ≡ prospect.Free → P
      no_way z = let y : ◌≡◌ {A = ℕ} 0 1 = cc in absurd (omega arith)

      alone : (o : Option ℕ) → prospect.Fails ≡ blocked_by o → o ≡ None
      alone None z = refl
      alone (Some b) z = cc

  pub free_told : prospect.Free ≡ prospect_of B on h r v → (B.legal r v ≡ true) × (Free ≡ true)
  unfolding prospect_of blocked_by
  free_told e = either (B.legal r v) (λ t. either Free (λ y. (t, y)) (λ n. no_way First (rw (t, n) at e))) (λ f. other (rw f at e))
    where
      no_way : (o : Option ℕ) → prospect.Free ≡ blocked_by o → (B.legal r v ≡ true) × (Free ≡ true)
      no_way None z = (cc, cc)
      no_way (Some b) z = (cc, cc)

      other : prospect.Free ≡ prospect.Fails → (B.legal r v ≡ true) × (Free ≡ true)
      other z = (cc, cc)

  pub blocked-told : (b : ℕ) → prospect.Blocked b ≡ prospect_of B on h r v → (B.legal r v ≡ true) × (Free ≡ false) × (First ≡ Some b)
  unfolding prospect_of blocked_by
  blocked-told b e = either (B.legal r v) (λ t. either Free (λ y. other (rw (t, y) at e)) (λ n. (t, n, one First (rw (t, n) at e)))) (λ f. fails (rw f at e))
    where
      one : (o : Option ℕ) → prospect.Blocked b ≡ blocked_by o → o ≡ Some b
      one None z = cc
      one (Some c) z = cc

      other : prospect.Blocked b ≡ prospect.Free → (B.legal r v ≡ true) × (Free ≡ false) × (First ≡ Some b)
      other z = (cc, cc, cc)

      fails : prospect.Blocked b ≡ prospect.Fails → (B.legal r v ≡ true) × (Free ≡ false) × (First ≡ Some b)
      fails z = (cc, cc, cc)

-- ---- what entering comes to

module _ (B : Board) (h : Roster) (q : Terms) (plain : Plain B) (depth : ℕ) (visiting : ℕ → Bool) (r v : ℕ) (L : List Edit) (n listed : ℕ) (rs vs : List ℕ) (w : Lifted B q.displace L) where
  abbrev Reply' : Reply
  Reply' = try_row B h q depth visiting r v L n

  abbrev As : List ℕ → List ℕ → Entered → Type 0
  As rs' vs' e = EnteredAs B h q depth visiting r v L n listed rs vs rs' vs' e

  -- nobody is left who could make way
  abbrev Nobody : Type 0
  Nobody = (rs' vs' : List ℕ) (s : Stuck) → Blocked B h q depth visiting r v L n listed rs vs rs' vs' s → ⊥

  missed_as : Reply' ≡ miss (n + 1) → Nobody → As rs vs (entered.Settled (trail.Missed (n + 1)))
  unfolding EnteredAs
  missed_as f z = record { told = told_missed Reply' (n + 1) listed (B.rows + depth + 1) rs vs rs vs f refl refl; nobody = z }

  pub stops_as : stops q (n + 1) ≡ true → As rs vs (entered.Settled (trail.Missed (n + 1)))
  stops_as y = missed_as (try_stops B h q visiting r v L n depth y) (λ rs' vs' s k. clash y k.goes)

  module _ (goes : stops q (n + 1) ≡ false) where
    pub fails_as : (x : Prospect) → x ≡ prospect_of B q.displace h r v → x ≡ prospect.Fails → As rs vs (entered.Settled (trail.Missed (n + 1)))
    fails_as x f g =
        fails_cases B q.displace h r v (sym g ∙ f)
        (λ z. missed_as (try_illegal B h q visiting r v L n goes depth z) (λ rs' vs' s k. clash k.legal z))
        (λ t y o. missed_as (try_alone B h q visiting r v L n goes plain w t y depth o) (λ rs' vs' s k. none-some s.blocker (sym o ∙ k.first)))

    module _ (legal : B.legal r v ≡ true) where
      pub free_as : is_free B (bare B q.displace h) r v ≡ true → (rs' vs' : List ℕ) (t : Trail)
          → Told (hit (n + 1) (displaced B q.displace h r v L ++ (edit r v ∷ []))) listed (B.rows + depth + 1) rs vs rs' vs' t
          → As rs' vs' (entered.Settled t)
      unfolding EnteredAs
      free_as y rs' vs' t k = record {
        told = rw (try_free B h q visiting r v L n goes plain w legal depth y) k;
        nobody = λ rs'' vs'' s o. clash y o.blocked;
      }

      module _ (blocked : is_free B (bare B q.displace h) r v ≡ false) where
        pub flat_as : depth ≡ 0 → As rs vs (entered.Settled (trail.Missed (n + 1)))
        flat_as z =
            missed_as
            (ap (λ (d : ℕ). try_row B h q d visiting r v L n) z ∙ try_flat B h q visiting r v L n goes plain w legal blocked)
            (λ rs' vs' s k. omega (arith, k.deeper))

        pub visited_as : (depth ≡ 0 → ⊥) → (b : Bool) → b ≡ visiting r → b ≡ true → As rs vs (entered.Settled (trail.Missed (n + 1)))
        visited_as z b f y = missed_as (deep depth z) (λ rs' vs' s k. clash (sym f ∙ y) k.unvisited)
          where
            deep : (d : ℕ) → (d ≡ 0 → ⊥) → try_row B h q d visiting r v L n ≡ miss (n + 1)
            deep zero z = absurd (z refl)
            deep (suc d) z = try_visited B h q visiting r v L n goes plain w legal blocked d (sym f ∙ y)

        pub stuck_as : (depth ≡ 0 → ⊥) → (b : Bool) → b ≡ visiting r → b ≡ false → (c : ℕ) → first_required B (bare B q.displace h) r v ≡ Some c
            → (rs' vs' : List ℕ) (end : ℕ) → Standing listed rs vs rs' vs' end (displaced B q.displace h r v L)
            → As rs' vs' (entered.Stuck (record { blocker = c; asks = n + 1; length = end }))
        unfolding EnteredAs
        stuck_as z b f y c o rs' vs' end k = record {
          goes = goes;
          legal = legal;
          blocked = blocked;
          deeper = positive depth z;
          unvisited = sym f ∙ y;
          first = o;
          asked = refl;
          standing = k;
        }
          where
            positive : (d : ℕ) → (d ≡ 0 → ⊥) → 1 ≤ d
            positive zero z = absurd (z refl)
            positive (suc d) z = omega arith

-- what is settled is told, what is stuck is blocked
module _ (B : Board) (h : Roster) (q : Terms) (depth : ℕ) (visiting : ℕ → Bool) (r v : ℕ) (L : List Edit) (n listed : ℕ) (rs vs rs' vs' : List ℕ) (e : Entered) (w : EnteredAs B h q depth visiting r v L n listed rs vs rs' vs' e) where
  pub settled_told : (t : Trail) → e ≡ entered.Settled t → Told (try_row B h q depth visiting r v L n) listed (B.rows + depth + 1) rs vs rs' vs' t
  unfolding EnteredAs
  settled_told t f =
      let settled : Settled B h q depth visiting r v L n listed rs vs rs' vs' t = rw f at w in
      settled.told

  pub stuck-blocked : (s : Stuck) → e ≡ entered.Stuck s → Blocked B h q depth visiting r v L n listed rs vs rs' vs' s
  unfolding EnteredAs
  stuck-blocked s f = rw f at w

-- ---- what displacement leaves, on or off

module _ (B : Board) (h : Roster) (r v listed : ℕ) (rs vs : List ℕ) where
  pub nothing-displaced : Roomy listed rs vs → Standing listed rs vs rs vs listed (displaced B false h r v (front listed rs vs))
  unfolding displaced
  nothing-displaced w =
      let long = length-take-le listed rs (omega (arith, w.within, w.rows_long)) in
      let many = length-take-le listed vs (omega (arith, w.within, w.values_long)) in
      record {
        list = refl;
        count = sym (length-edits (take listed rs) (take listed vs) (long ∙ sym many) ∙ long);
        longer = omega arith;
        rows_kept = refl;
        values_kept = refl;
      }

pub displaced-fits : (S : Shape) (m k : List ℕ) (h : Roster) (on : Bool) (L : List Edit) → Lifted (board S m k) on L → Marked S m → (r v : ℕ) → legal_at S m r v ≡ true
    → length (displaced (board S m k) on h r v L) ≤ S.rows
displaced-fits S m k h on L w marked r v legal =
    lifted_few (board S m k) on h _ (lifted-more (board S m k) on h L w (board_plain S m k marked) r v legal)
