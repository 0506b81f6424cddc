-- What the writer's own steps ask and promise each other beside the definitions: of the arithmetic stream (Flow), of the side stream
-- (Cursors), of both (Sends), of their bytes joined (Joined), and of the frame (Frames).
pub mod Flow
pub mod Cursors
pub mod Sends
pub mod Joined
pub mod Frames
