-- `filed_rosters::index::fill_index` meets its contract: tables and roster are filled, and the index is that roster's. Assumes nothing.
use mathlib.Core.Path.{◌∙◌}
use Rattle.filed_rosters.proofs.IndexLaws.{fits, is-small, marked, records_filed, members_filed}
use Rattle.filed_rosters.proofs.index.fill_index.Goals as goal

pub fill_marks-requires : goal.fill_marks-requires
fill_marks-requires c = record { small = is-small _ _ _ c.requires.counted; fitting = fits _ _ _ c.requires.counted; count_bound = (c.requires.counted.few, c.requires.marks_len.0) }

pub fill_keys-requires : goal.fill_keys-requires
fill_keys-requires c = record { small = is-small _ _ _ c.requires.counted; fitting = fits _ _ _ c.requires.counted; count_bound = (c.requires.counted.few, c.requires.marks_len.1) }

pub fill_roster-requires : goal.fill_roster-requires
fill_roster-requires c = record { fitting = fits _ _ _ c.requires.counted; count_bound = (c.requires.counted.few, c.requires.roster_len.0) }

pub build-requires : goal.build-requires
build-requires c = record { marked = marked _ _ _ c.requires.counted _ (c.fill_marks.auto.marks ∙ c.requires.marks_len.0); keys_len = (c.fill_keys.auto.keys ∙ c.requires.marks_len.1, c.requires.roster_len.1, c.requires.roster_len.2, c.fill_roster.auto.roster ∙ c.requires.roster_len.0) }

pub returns : goal.returns
returns c = record { marks_value = (c.fill_marks.ensures, c.fill_keys.ensures); records_value = (records_filed _ _ _ c.requires.counted _ _ _ _ _ c.fill_marks.ensures c.fill_keys.ensures c.fill_roster.ensures c.build.ensures.records_value c.build.ensures.members_value, members_filed _ _ _ c.requires.counted _ _ _ _ _ c.fill_marks.ensures c.fill_keys.ensures c.fill_roster.ensures c.build.ensures.records_value c.build.ensures.members_value) }
