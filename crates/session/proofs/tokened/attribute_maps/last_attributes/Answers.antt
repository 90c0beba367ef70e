use Rattle.std.proofs.Common.{◌≡◌, Some, None, sym, ap, arith}
use Rattle.std.specs.Prelude.{codes}
use Rattle.json.specs.Json.{read_key}
use Rattle.optext.specs.Described.{attributes_of}
use Rattle.session.proofs.Operators.{ends_without, ends_with}
use Rattle.session.proofs.tokened.attribute_maps.last_attributes.Goals as goal

pub returns-in-None : goal.returns-in-None
returns-in-None c =
    let ends : read_key c.args.reader.now ≡ Some (None, c.next_name.new.reader) = grind arith in
    ends_without attributes_of c.args.reader.now c.next_name.new.reader c.new.result (ap Some (sym c.new.ensures)) ends

pub returns-in_ok-end_object-in-Some-attributes : goal.returns-in_ok-end_object-in-Some-attributes
returns-in_ok-end_object-in-Some-attributes c =
    let named : read_key c.args.reader.now ≡ Some (Some (codes "attributes"), c.next_name.new.reader) = grind arith in
    ends_with attributes_of c.args.reader.now c.end_object.new.reader c.in_ok-attrs-in-Some-attributes.attrs c.next_name.new.reader c.attributes.new.reader named c.in_ok-attrs-in-Some-attributes.ensures c.in_ok-end_object-in-Some-attributes.ensures
