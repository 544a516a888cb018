-- Demand 2's definitions, gathered under one name: those that the contracts of `start`, `judge`, `cut`, `set_rates` and the readings cite, and what they are made of. No definition is made here.
pub use Rattle.flow.specs.Flow.{zeros}
unfoldable pub use Rattle.flow.specs.Flow.{numbers, fills}
unfoldable pub use Rattle.head.specs.Questions.{is_rate, is_max, all_rates, is_unbounded, is_stamp, costs_held, stamps_whole, tables_whole, rooms_whole, tags_whole, slots_whole, sizes_whole, head_whole, whole_with, memory_whole, both_bounded, start_asked, judge_asked, cut_asked, rates_asked}
pub use Rattle.head.specs.Headed.{headed}
pub use Rattle.head.specs.Start.{Beginning, start_ends}
unfoldable pub use Rattle.head.specs.Start.{buckets, first_levels, opening, start}
unfoldable pub use Rattle.head.specs.Readings.{index_of, visited as visited_tables, cut_batches, level_read, rate_read, is_bounded}
unfoldable pub use Rattle.head.specs.Answers.{answer_number}
pub use Rattle.head.specs.Answers.{judge_number, cut_number, rates_number, reading_number, level_number, rate_number, bounded_number}
pub use Rattle.scan_trim.specs.Trimming.{trims_at}
unfoldable pub use Rattle.scan_trim.specs.Trimming.{opens, levels, trimmed}
pub use Rattle.scan.specs.Scanning.{Scanning, scanning, Started, started, ended_at, scanned_from}
unfoldable pub use Rattle.scan.specs.Scanning.{visited, visit, again, ended, opened, begun, scanned}
pub use Rattle.store_entry.specs.Entering.{Entered, entered, place}
unfoldable pub use Rattle.parts.specs.Parts.{find}
unfoldable pub use Rattle.store_entry.specs.Entering.{entry, used_at, put_back}
pub use Rattle.cut_counts.specs.Counting.{Tally, tally, source_tags}
unfoldable pub use Rattle.cut_counts.specs.Counting.{cause_of, added, tallied, count_verdict}
pub use Rattle.judge.specs.Judging.{Through, passing, outcome_at, Memory, memory, Judged, judge_ends}
unfoldable pub use Rattle.judge.specs.Judging.{rank_at, outcome, flowed, judged, answer_of, bounded, judge}
pub use Rattle.cut.specs.Cutting.{KeptBy, kept_by, handed_at, Cut, cut_ends, cut_after}
unfoldable pub use Rattle.cut.specs.Cutting.{hands_back, flowed_back, handed_back, noted, cut}
pub use Rattle.rates.specs.Rates.{Changed, change_ends}
unfoldable pub use Rattle.rates.specs.Rates.{turned, set_rates}
