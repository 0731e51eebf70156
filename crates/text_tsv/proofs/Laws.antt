-- The laws of `specs/Laws`, each by its proof.
-- Assumes nothing.
use Rattle.text_tsv.specs.Laws.{Laws}
use Rattle.text_tsv.proofs.Numerals as numerals
use Rattle.text_tsv.proofs.Parts as parts
use Rattle.text_tsv.proofs.Splitting as splitting

pub laws : Laws
laws =
    record {
      of_lines = record { no_line = parts.no_line; line_ended = parts.line_ended; line_unended = parts.line_unended };
      of_fields = record {
        parted = parts.parted;
        rejoined = parts.rejoined;
        at_place = parts.at_place;
        beyond_the_line = λ line at h. splitting.fields_beyond line at h;
        same_exactly = λ a b. (parts.same_is a b, parts.is_same a b);
      };
      of_numbers = record {
        read = numerals.read;
        read_only = numerals.read_only;
        beyond = numerals.beyond;
        taken = λ most fs n rest. (numerals.take_only most fs n rest, numerals.takes most fs n rest);
        not_taken = numerals.not_taken;
        written = numerals.written;
        written_cell = numerals.written_cell;
      };
    }
