-- Spans as intervals. Definitions only. Assumes nothing.
use Rattle.std.specs.Prelude.{List, map}
use Rattle.intervals.specs.Intervals.{Interval}
use Rattle.position_spans.specs.declared.Span.{Span}

-- 01 m6.11, form.9: spans, each with start and end
abbrev pub span_pair : Span → Interval
span_pair s = (s.start, s.end)

abbrev pub span_pairs : List Span → List Interval
span_pairs spans = map span_pair spans

-- 01 m6.11: what stands past the end of a list of spans; nothing is read there
abbrev pub no_span : Span
no_span = record { start = 0; end = 0 }
