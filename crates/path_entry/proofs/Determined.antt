-- No second result meets a contract of this crate. Of the cells behind the list nothing is said: they are scratch. Assumes nothing.
use Prim.Native.Nat.{ℕ}
use mathlib.Core.Path.{◌≡◌, sym, ap, ap₂, ◌∙◌}
use mathlib.Core.Bool.{Bool}
use mathlib.Core.List.{List}
use Rattle.std.specs.Prelude.{Option, None, Some}
use Rattle.basics.specs.Edits.{Edit}
use Rattle.basics.specs.Promises.{Fixes, ◌&◌}
use Rattle.basics.proofs.Promises.{alike, both}
use Rattle.rules.specs.Board.{Board}
use Rattle.rules.specs.Roster.{Roster}
use Rattle.search_rules.specs.Search.{Terms, Reply, hit}
use Rattle.path_steps.specs.Lists.{front}
use Rattle.path_entry.specs.declared.Entered.{Entered}
use Rattle.path_entry.specs.declared.Entered.TheVariants as entered
use Rattle.path_entry.specs.Trails.{reply_in, EnteredAs}
use Rattle.path_entry.proofs.leaves

-- all that is seen of a row that was entered: who is to make way, if somebody is; the asks, and the list, if there is one
unfoldable pub entry_in : Entered → List ℕ → List ℕ → Option ℕ × Reply
entry_in (entered.Settled t) rs vs = None & reply_in t rs vs
entry_in (entered.Stuck s) rs vs = Some s.blocker & hit s.asks (front s.length rs vs)

entered_once : (B : Board) (h : Roster) (q : Terms) (depth : ℕ) (visiting : ℕ → Bool) (r v : ℕ) (L : List Edit) (n listed : ℕ) (rs vs rs' vs' rs'' vs'' : List ℕ) (x y : Entered)
    → EnteredAs B h q depth visiting r v L n listed rs vs rs' vs' x → EnteredAs B h q depth visiting r v L n listed rs vs rs'' vs'' y → entry_in x rs' vs' ≡ entry_in y rs'' vs''
unfolding EnteredAs entry_in
entered_once B h q depth visiting r v L n listed rs vs rs' vs' rs'' vs'' (entered.Settled t) (entered.Settled u) a b = ap (λ (z : Reply). None & z) (alike a.told.reply b.told.reply)
entered_once B h q depth visiting r v L n listed rs vs rs' vs' rs'' vs'' (entered.Settled t) (entered.Stuck u) a b = absurd (a.nobody rs'' vs'' u b)
entered_once B h q depth visiting r v L n listed rs vs rs' vs' rs'' vs'' (entered.Stuck s) (entered.Settled u) a b = absurd (b.nobody rs' vs' s a)
entered_once B h q depth visiting r v L n listed rs vs rs' vs' rs'' vs'' (entered.Stuck s) (entered.Stuck u) a b =
    both (sym a.first ∙ b.first) (ap₂ hit (alike a.asked b.asked) (alike a.standing.list b.standing.list))

-- who is to make way, the asks, and the list in front of both slices
pub follow : Fixes leaves.follow.Reads.Post λ κs r e. entry_in r e.1.1.1.1.1.1.0.now e.1.1.1.1.1.1.1.0.now
follow κs a r s e f p q = entered_once _ _ _ _ _ _ _ _ _ _ _ _ _ _ _ _ r s (p None) (q None)

-- the asks, and the list in front of both slices, if it serves
pub close_path : Fixes leaves.close_path.Reads.Post λ κs r e. reply_in r e.1.1.0.now e.1.1.1.0.now
close_path κs a r s e f p q = alike p.reply q.reply
