-- `record_listing::list` meets its contract: each way out puts the listing of what was read. Assumes nothing.
use mathlib.Core.List.{◌++◌}
use mathlib.Core.Path.{◌≡◌, sym, ◌∙◌}
use Prim.Native.Nat.{◌≤◌}
use native.Mathlib.Omega.{arith}
use lib.ListN.{length}
use Rattle.record_listing.proofs.Lines.{list-short, list-placed, listing-long, known-record, listing-damaged, listing-record}
use Rattle.record_bytes.proofs.Putting.{placed-before}
use Rattle.record_listing.specs.Listing.{known, field, newline, lines_in, known_in, records, damaged, too_long}
use Rattle.record_listing.proofs.list.Goals as goal

pub returns-then-end-lt65536 : goal.returns-then-end-lt65536
returns-then-end-lt65536 c =
    let u = list-short c.args.bytes.now c.args.out.now c.if-end-lt65536.true in
    record { result_value = u.0; out_after = u.1 }

pub returns-then-bytes-gt65536 : goal.returns-then-bytes-gt65536
returns-then-bytes-gt65536 c =
    let s = c.args.bytes.now in
    let o = c.args.out.now in
    let p = c.put_text in
    let u = list-placed s o p.new.out too_long p.result (omega arith) (listing-long s c.if-bytes-gt65536.true)
    p.ensures in
    record { result_value = u.0; out_after = u.1 }

pub returns-in_default : goal.returns-in_default
returns-in_default c =
    let s = c.args.bytes.now in
    let o = c.args.out.now in
    let p = c.put_text-in_default in
    let none = sym c.either_form.ensures
    ∙ c.in_default.is in
    let u = list-placed s o p.new.out damaged p.result (omega arith) (listing-damaged s (omega arith) none) p.ensures in
    record { result_value = u.0; out_after = u.1 }

pub put_lines-below-requires : goal.put_lines-below-requires
put_lines-below-requires c =
    let s = c.args.bytes.now in
    let r = known-record s c.in-Some.known.form c.in-Some.known.entries (sym c.either_form.ensures ∙ c.in-Some.is) in
    record {
      whole = r.whole;
      in_bounds = omega arith;
    }

pub returns : goal.returns
returns c =
    let s = c.args.bytes.now in
    let o = c.args.out.now in
    let p1 = c.put_lines-below in
    let p2 = c.put_field-at in
    let p3 = c.put_text-2 in
    let n = c.in-Some.known.entries in
    let f = c.in-Some.known.form in
    let whole : known_in s ≡ known f n =
    sym c.either_form.ensures ∙ c.in-Some.is in
    let all : length o ≤ length o = omega arith in
    let q2 = placed-before o p1.new.out p2.new.out p2.result p1.result (length o) (field n newline)
    (lines_in f s) all p1.ensures.placed p2.ensures.placed in
    let q3 = placed-before o p2.new.out p3.new.out p3.result p2.result (length o) records
    (field n newline ++ lines_in f s) all q2 p3.ensures in
    let u = list-placed s o p3.new.out (records ++ (field n newline ++ lines_in f s)) p3.result c.if-end-lt65536.false
    (listing-record s f n c.if-bytes-gt65536.false whole) q3 in
    record { result_value = u.0; out_after = u.1 }
