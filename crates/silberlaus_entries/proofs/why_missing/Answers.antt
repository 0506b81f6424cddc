-- `silberlaus_entries::why_missing` meets its contract. Assumes nothing.
use mathlib.Core.Path.{ap, ◌∙◌}
use Rattle.record_bytes.specs.Answers.{EntryAnswer}
use Rattle.silberlaus_entries.proofs.Entry.{numbered}
use Rattle.silberlaus_entries.proofs.why_missing.Goals as goal

pub returns : goal.returns
returns c = c.numbered.ensures ∙ numbered c.entry.result ∙ ap (λ (x : EntryAnswer). x.number) c.entry.ensures
