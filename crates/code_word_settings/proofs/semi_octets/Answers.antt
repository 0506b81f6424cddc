-- `code_word_settings::semi_octets` meets its contract: the bits of all elements are low where each is a semi-octet. Assumes nothing.
use mathlib.Core.Path.{◌≡◌}
use Prim.Native.Nat.{ℕ, ◌-◌}
use borrow.Author.Rules.{rules}
use lib.Bits.{bit_or}
use lib.ListN.{drop, take, length}
use Rattle.std.proofs.iter.runs.Made.{chains}
use Rattle.std.proofs.lemmas.List.{take_rest}
use Rattle.std.specs.List.{fold}
use Rattle.code_word_settings.proofs.Tests.{all-low}
use Rattle.code_word_settings.proofs.semi_octets.Goals as goal

pub returns : goal.returns
returns c =
    let w = c.args.word.now in
    let e : c.fold.result ≡ fold (λ (b x : ℕ). bit_or b x) 0 (take (length w - c.args.n) (drop c.args.n w)) = search (rules, chains) in
    all-low _ c.fold.result (rw take_rest at e)
