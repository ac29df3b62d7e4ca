-- What a try leaves in the lent list, and what it answers. docs/RULES.md, 6.2 to 6.5.
use Rattle.std.specs.Prelude.{ℕ, ◌+◌, ◌≤◌, ◌≡◌, Bool, true, false, List, length, take, Option, Some}
use Rattle.std.specs.Borrow.{MutBor}
use denote.Triple.Both.{Both}
use Rattle.basics.specs.Edits.{Edit}
use Rattle.basics.specs.Lent.{had, became}
use Rattle.rules.specs.Board.{Board}
use Rattle.rules.specs.Roster.{Roster}
use Rattle.search_rules.specs.Blockers.{is_free, first_required}
use Rattle.search_rules.specs.Search.{Terms, Reply, miss, hit, stops, displaced, closed, try_row}
use Rattle.search_rules.specs.Lifted.{bare}
use Rattle.path_steps.specs.Lists.{front, Standing}
use Rattle.path_entry.specs.declared.Trail.{Trail}
use Rattle.path_entry.specs.declared.Trail.TheVariants as trail
use Rattle.path_entry.specs.declared.Entered.{Entered}
use Rattle.path_entry.specs.declared.Entered.TheVariants as entered
use Rattle.path_entry.specs.declared.Stuck.{Stuck}

-- what stays the same through a search, as the code has it
abbrev pub terms : Bool → Option ℕ → ℕ → Terms
terms displace limit budget = record { displace = displace; limit = limit; budget = budget }

-- the list in the front of two lent slices, at entry
abbrev pub the_list : {Y Z : Type 0} → ℕ → Both (MutBor (List ℕ)) Y → Both (MutBor (List ℕ)) Z → List Edit
the_list listed rows values = front listed (had rows) (had values)

-- the reply that a trail is, its list in the front of two slices
unfoldable pub reply_in : Trail → List ℕ → List ℕ → Reply
reply_in (trail.Missed n) rs vs = miss n
reply_in (trail.Found p) rs vs = hit p.asks (front p.length rs vs)

-- a list that was found is so long at least, and so long at most
unfoldable pub Between : ℕ → ℕ → Trail → Type 0
Between least most (trail.Missed n) = Unit {0}
Between least most (trail.Found p) = (least ≤ p.length) × (p.length ≤ most)

-- the room that a list has: as long as it can become
pub record Roomy (listed : ℕ) (rs vs : List ℕ) : Type 0 where
  pub rows_long : length rs ≡ 137
  pub values_long : length vs ≡ 137
  pub within : listed ≤ 137

-- the trail is the reply; what stood in the first `listed` cells stands there still, and a list that was found goes on from there
pub record Told (a : Reply) (listed bound : ℕ) (rs vs rs' vs' : List ℕ) (t : Trail) : Type 0 where
  pub reply : reply_in t rs' vs' ≡ a
  pub between : Between listed bound t
  pub rows_kept : take listed rs' ≡ take listed rs
  pub values_kept : take listed vs' ≡ take listed vs

-- the same of two lent slices, at entry and at exit
abbrev pub Tells : Reply → ℕ → ℕ → Both (MutBor (List ℕ)) (MutBor (List ℕ)) → Both (MutBor (List ℕ)) (MutBor (List ℕ)) → Trail → Type 0
Tells a listed bound rows values t = Told a listed bound (had rows) (had values) (became rows) (became values) t

-- a row that is still blocked: by whom, and the list as displacement left it
pub record Blocked (B : Board) (h : Roster) (q : Terms) (depth : ℕ) (visiting : ℕ → Bool) (r v : ℕ) (L : List Edit) (n listed : ℕ) (rs vs rs' vs' : List ℕ) (s : Stuck) : Type 0 where
  pub goes : stops q (n + 1) ≡ false
  pub legal : B.legal r v ≡ true
  pub blocked : is_free B (bare B q.displace h) r v ≡ false
  pub deeper : 1 ≤ depth
  pub unvisited : visiting r ≡ false
  pub first : first_required B (bare B q.displace h) r v ≡ Some s.blocker
  pub asked : s.asks ≡ n + 1
  pub standing : Standing listed rs vs rs' vs' s.length (displaced B q.displace h r v L)

-- a row that is settled: the trail is the reply, and nobody is left who could make way
pub record Settled (B : Board) (h : Roster) (q : Terms) (depth : ℕ) (visiting : ℕ → Bool) (r v : ℕ) (L : List Edit) (n listed : ℕ) (rs vs rs' vs' : List ℕ) (t : Trail) : Type 0 where
  pub told : Told (try_row B h q depth visiting r v L n) listed (B.rows + depth + 1) rs vs rs' vs' t
  pub nobody : (rs'' vs'' : List ℕ) (s : Stuck) → Blocked B h q depth visiting r v L n listed rs vs rs'' vs'' s → ⊥

-- what trying a row comes to before its blocker is asked to make way
unfoldable pub EnteredAs : Board → Roster → Terms → ℕ → (ℕ → Bool) → ℕ → ℕ → List Edit → ℕ → ℕ → List ℕ → List ℕ → List ℕ → List ℕ → Entered → Type 0
EnteredAs B h q depth visiting r v L n listed rs vs rs' vs' (entered.Settled t) = Settled B h q depth visiting r v L n listed rs vs rs' vs' t
EnteredAs B h q depth visiting r v L n listed rs vs rs' vs' (entered.Stuck s) = Blocked B h q depth visiting r v L n listed rs vs rs' vs' s

-- 6.2: the same of two lent slices, whatever the limit: it is asked for once the blocker's alternatives are walked
abbrev pub Enters : Board → Roster → Bool → ℕ → ℕ → (ℕ → Bool) → ℕ → ℕ → ℕ → ℕ → Both (MutBor (List ℕ)) (MutBor (List ℕ)) → Both (MutBor (List ℕ)) (MutBor (List ℕ)) → Entered → Type 0
Enters B h displace budget depth visiting r v n listed rows values e =
    (limit : Option ℕ) → EnteredAs B h (terms displace limit budget) depth visiting r v (the_list listed rows values) n listed (had rows) (had values) (became rows) (became values) e

-- 6.5: what was found serves if the row is then free; else it is no more than a longer list behind the one that is kept
pub record Closed (B : Board) (h : Roster) (r v : ℕ) (rs vs rs' vs' : List ℕ) (tried t : Trail) : Type 0 where
  pub reply : reply_in t rs' vs' ≡ closed B h r v (reply_in tried rs vs)
  pub between : (least most : ℕ) → Between least most tried → Between least (most + 1) t
  pub rows_kept : (k most : ℕ) → Between k most tried → take k rs' ≡ take k rs
  pub values_kept : (k most : ℕ) → Between k most tried → take k vs' ≡ take k vs
