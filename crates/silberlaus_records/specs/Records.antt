-- The answers of `record` (specs/Answers.antt of `record_bytes`) over the fields of the C structs. Assumes nothing.
use Rattle.record_bytes.specs.Answers.{Answer, EntryAnswer}
use Rattle.silberlaus_records.specs.declared.SilberlausEntries.{SilberlausEntries}
use Rattle.silberlaus_records.specs.declared.SilberlausEntry.{SilberlausEntry}
use Rattle.silberlaus_records.specs.declared.SilberlausAdded.{SilberlausAdded}

abbrev pub entries_given : SilberlausEntries → Answer
entries_given r = record { number = r.number; value = r.entries }

abbrev pub added_given : SilberlausAdded → Answer
added_given r = record { number = r.number; value = r.used }

abbrev pub entry_given : SilberlausEntry → EntryAnswer
entry_given r =
    record {
      number = r.number;
      entry = record { start = r.start; length = r.length; request = r.request; count = r.count; bits = r.bits };
    }
