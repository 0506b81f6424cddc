-- The arithmetic stream and the answer to a judgement (Answers), and the bounds of an accepted frame (Sound).
pub mod Answers
pub mod Sound
