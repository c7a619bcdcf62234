use Rattle.std.proofs.Common.{◌≡◌, length, [], refl}
use Rattle.std.proofs.lemmas.Bool.{le-ltb, lt-ltb}
use Rattle.component_tree.specs.Limits.{entry_limit}
use Rattle.component_tree.specs.Listing.{listing}
use Rattle.component_tree.proofs.Listings.{listing_is}
use Rattle.component_tree.proofs.walk.list_folder.Goals as goal

pub returns-in-Ok-clause-told : goal.returns-in-Ok-clause-told
returns-in-Ok-clause-told g c = λ map held.
    let told = c.in-Ok.ensures.told map held in
    let is : listing map c.args.folder.now ≡ c.in-Ok.entries = listing_is map c.args.folder.now c.in-Ok.entries told.0 in
    rw (is, le-ltb entry_limit (length c.in-Ok.entries) told.1) refl

pub returns-in-Err-Missing-clause-told : goal.returns-in-Err-Missing-clause-told
returns-in-Err-Missing-clause-told g c = λ map held.
    let told = rw c.in-Err-Missing.field-0-is at (c.in-Err-Missing.ensures.told map held) in
    let is : listing map c.args.folder.now ≡ [] = listing_is map c.args.folder.now [] told in
    rw (is, c.new.ensures) refl

pub returns-in-Err-TooMany-clause-told : goal.returns-in-Err-TooMany-clause-told
returns-in-Err-TooMany-clause-told g c = λ map held.
    let told = rw c.in-Err-TooMany.field-0-is at (c.in-Err-TooMany.ensures.told map held) in
    let is : listing map c.args.folder.now ≡ told.0 = listing_is map c.args.folder.now told.0 told.1 in
    rw (is, lt-ltb entry_limit (length told.0) told.2) refl
