use Rattle.deck_places.proofs.Spotted.{place_is_within}
use Rattle.deck_places.proofs.laws.each_place_has_a_statement.Goals as goal

pub returns : goal.returns
returns c units library lines cause at h = place_is_within units library lines cause at h
