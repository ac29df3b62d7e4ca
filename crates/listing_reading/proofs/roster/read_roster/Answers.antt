-- `listing_reading::roster::read_roster` meets its contract: the three ways to be malformed, and what is accepted. Assumes nothing.
use Rattle.std.proofs.lemmas.Option.{MatchOption-at_some}
use Rattle.basics.proofs.Options.{none_so}
use Rattle.listing_reading.proofs.RosterLaws.{too_long, unread, disagree, accepted}
use native.Mathlib.Omega.{arith}
use Rattle.listing_reading.proofs.roster.read_roster.Goals as goal

pub returns-then-bytes-gt65536 : goal.returns-then-bytes-gt65536
returns-then-bytes-gt65536 c = too_long _ c.if-bytes-gt65536.true

pub returns-in_err-count : goal.returns-in_err-count
returns-in_err-count c = none_so _ _ c.from_residual.ensures (unread _ _ _ _ c.read_records.ensures c.in_err-count.was)

pub records_agree-requires : goal.records_agree-requires
records_agree-requires c = let h = MatchOption-at_some _ _ _ c.in_ok-count.was c.read_records.ensures in
    (h.few, omega (arith, c.read_records.auto.cells, c.requires))

pub returns-then-not-records_agree : goal.returns-then-not-records_agree
returns-then-not-records_agree c = disagree _ _ _ _ (MatchOption-at_some _ _ _ c.in_ok-count.was c.read_records.ensures) _ c.records_agree.ensures c.if-not-records_agree.true

pub returns : goal.returns
returns c = accepted _ _ _ _ (MatchOption-at_some _ _ _ c.in_ok-count.was c.read_records.ensures) _ c.records_agree.ensures c.if-bytes-gt65536.false c.if-not-records_agree.false
