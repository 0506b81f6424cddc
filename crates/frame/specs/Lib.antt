-- What is right of a frame: Frame joins the reading steps of clause 5.4.2, which stand in the clause's order in specs/ of frame_settings,
-- frame_bits, frame_shape and frame_side, frame_coder, frame_tns, frame_pair and frame_pairs, frame_residual and frame_finish,
-- frame_spectral and frame_arithmetic; frame_answers says what the reader answers.
pub mod Frame
