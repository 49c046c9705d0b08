-- What the face shows of bundles.
use Rattle.std.specs.Prelude.{true, false, Option as Maybe, Some, None}
use Rattle.lent.specs.Paper.{Told, value, nothing, refused}
use Rattle.lent.specs.Room.{Written, counted, refused_as, refused_for}
use Rattle.bundle.specs.Layout.{Spans}
use Rattle.bundle.specs.declared.Span.{Span}
use Rattle.gillacorn.specs.declared.bundles.PartSpan.{PartSpan}
use Rattle.gillacorn.specs.declared.bundles.PartSpans.{PartSpans}
use Rattle.gillacorn.specs.declared.bundles.SpansAnswer.{SpansAnswer}
use Rattle.gillacorn.specs.declared.bundles.BytesAnswer.{BytesAnswer}

-- a mark, and numbers that are 0 where the part is absent
abbrev pub span_shown : Maybe Span → PartSpan
span_shown None = record { present = false; start = 0; length = 0 }
span_shown (Some s) = record { present = true; start = s.start; length = s.length }

abbrev pub spans_shown : Spans → PartSpans
spans_shown x =
    record {
      original_sections = span_shown x.original_sections;
      transformed_sections = span_shown x.transformed_sections;
      to_original = span_shown x.to_original;
      to_transformed = span_shown x.to_transformed;
      old_frames = span_shown x.old_frames;
      new_frames = span_shown x.new_frames;
    }

-- all parts absent, where there are none to give
abbrev pub no_spans : Spans
no_spans =
    record {
      original_sections = None;
      transformed_sections = None;
      to_original = None;
      to_transformed = None;
      old_frames = None;
      new_frames = None;
    }

abbrev pub spans_answer : Told Spans → SpansAnswer
spans_answer (value x) = record { code = 0; spans = spans_shown x }
spans_answer nothing = record { code = 255; spans = spans_shown no_spans }
spans_answer (refused n) = record { code = n; spans = spans_shown no_spans }

-- the number of bytes written; with a refusal that tells it, the number needed
abbrev pub bytes_answer : Written → BytesAnswer
bytes_answer (counted n) = record { code = 0; bytes = n }
bytes_answer (refused_as k) = record { code = k; bytes = 0 }
bytes_answer (refused_for k n) = record { code = k; bytes = n }
