-- `code_word_syndromes::table` meets its contract: the constant is the list of the entries, by one computation. Assumes nothing.
use Rattle.laws.specs.Tab.{tab}
use Rattle.gf16.proofs.Products.{looked}
use Rattle.code_word_laws.specs.Word.{ones}
use Rattle.code_word_laws.specs.Corrector.{both_of}
use Rattle.code_word_syndromes.proofs.Tabled.{entries, quick, table-of-entries}
use Rattle.code_word_syndromes.proofs.table.Goals as goal

pub returns : goal.returns
unfolding entries tab quick looked both_of ones
returns c = table-of-entries
