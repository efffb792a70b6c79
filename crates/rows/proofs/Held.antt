-- Every row holds: what is given computes to the document's result. Assumes nothing.
use mathlib.Core.Path.{◌≡◌, refl}
use mathlib.Core.List.{map}
use Rattle.key_order.specs.Order.{compare_numbers, compare_keys}
use Rattle.key_order.specs.Boundary.{compare_boundaries}
use Rattle.query_item.specs.Items.{item_at, items_from, flat_all}
use Rattle.item_check.specs.Checks.{first_bad, first_break, strict_verdict}
use Rattle.intervals.specs.Lists.{meets_of, shared_of, cuts_of, without_of, keep}
use Rattle.intervals.specs.Intervals.{inside, holds, piece}
use Rattle.intervals.specs.Cover.{grow_of, cover_of, cover, cover_all}
use Rattle.key_order.specs.Words.{be}
use Rattle.intersect.specs.Pair.{meet_sets, left_over, right_over}
use Rattle.keyless.specs.Keyless.{keyless}
use Rattle.intersect_many.specs.Lists.{convert_all, keyed_items, shared_items, only_items}
use Rattle.insert_order.specs.Order.{compare_items, same_item, ends_below, clashes}
use Rattle.insert_order.specs.Refusals.{first_clash}
use Rattle.insert_merge.specs.Merge.{fate_of, staying, merged, merged_with}
use Rattle.insert.specs.Insertion.{placed, inserted}
use Rattle.pairs_sort.specs.Pairs.{pairs_from, flat_pairs}
use Rattle.position_given.specs.Given.{first_touching, canonical_verdict, first_falling, ascending_verdict}
use Rattle.position_given.specs.Positions.{count_up, positions_of, is_in}
use Rattle.position_query.specs.Ranges.{ranges}
use Rattle.position_report.specs.Reports.{report_of}
use Rattle.position_mismatch.specs.Reports.{missing}
use Rattle.lent_text.specs.Text.{digits}
use Rattle.key_text.specs.Text.{hex_digit, hex_text, key_text}
use Rattle.krl_file.specs.File.{u16_at, record_at, records_from}
use Rattle.krl_listing.specs.Listing.{item_line, item_lines, list_lines, listing_lines, text_of_lines}
use Rattle.krl_program.specs.Program.{program_answer, program_lines}
use Rattle.rows.specs.Rows.{Result, Row, rows}

pub rows_hold : map {B = Result} (λ (r : Row). r.0) rows ≡ map (λ (r : Row). r.1) rows
unfolding compare_numbers compare_keys compare_boundaries item_at items_from flat_all first_bad first_break strict_verdict meets_of shared_of cuts_of without_of meet_sets left_over right_over keyless convert_all keyed_items shared_items only_items compare_items same_item ends_below clashes fate_of staying merged merged_with placed inserted first_clash inside holds piece grow_of cover_of cover cover_all pairs_from flat_pairs first_touching canonical_verdict first_falling ascending_verdict count_up positions_of be ranges is_in keep missing report_of digits hex_digit hex_text key_text u16_at record_at records_from item_line item_lines list_lines listing_lines text_of_lines program_answer program_lines
rows_hold = refl
